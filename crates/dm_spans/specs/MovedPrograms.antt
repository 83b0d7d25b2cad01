-- Programs whose trees stand elsewhere, where the nodes of each full expression stand at one place.
--     StandAt at tree      each node of the tree stands there
--     IsMoved tree other      the same tree, where all nodes of an expression in the other stand at one place
--     IsMovedProgram program other      the program with such trees
use Rattle.std.specs.Prelude.{◌≡◌, MatchBool, List, [], ◌∷◌}
use Rattle.dm_tree.specs.Trees.{is_statement, Spans, Tree, Trees, node, no_trees, more_trees, label_of, kind_of, spans_of, trees_of}
use Rattle.dm_meaning.specs.Among.{IsAmong}
use Rattle.dm_meaning.specs.Programs.{Definition, Static, Program}
use Rattle.dm_spans.specs.SameTrees.{AreSame}

-- ---- trees

abbrev mutual
  pub StandAt : Spans → Tree → Type 0
  StandAt at (node label kind spans parts) = (spans ≡ at) × AllStandAt at parts

  pub AllStandAt : Spans → Trees → Type 0
  AllStandAt at no_trees = Unit {0}
  AllStandAt at (more_trees first rest) = StandAt at first × AllStandAt at rest

abbrev mutual
  pub IsMoved : Tree → Tree → Type 0
  IsMoved (node label kind spans parts) other =
      (label_of other ≡ label) × (kind_of other ≡ kind)
      × MatchBool (is_statement label) (AreMoved parts (trees_of other)) (AreSame parts (trees_of other) × AllStandAt (spans_of other) (trees_of other))

  pub AreMoved : Trees → Trees → Type 0
  AreMoved no_trees no_trees = Unit {0}
  AreMoved (more_trees first rest) (more_trees other others) = IsMoved first other × AreMoved rest others
  AreMoved trees others = ⊥

abbrev pub AllMoved : List Tree → List Tree → Type 0
AllMoved [] [] = Unit {0}
AllMoved (tree ∷ trees) (other ∷ others) = IsMoved tree other × AllMoved trees others
AllMoved trees others = ⊥

-- ---- programs

pub record IsMovedDefinition (one other : Definition) : Type 0 where
  pub function : other.function ≡ one.function
  pub parameters : other.parameters ≡ one.parameters
  pub body : IsMoved one.body other.body

pub record IsMovedStatic (one other : Static) : Type 0 where
  pub declared : other.declared ≡ one.declared
  pub initialiser : other.initialiser ≡ one.initialiser
  pub expressions : AllMoved one.expressions other.expressions

pub record IsMovedProgram (program other : Program) : Type 0 where
  pub declared : other.declared ≡ program.declared
  pub table : other.table ≡ program.table
  -- each that the other has is one of the program's, moved
  pub functions : (new : Definition) → IsAmong new other.functions → (old : Definition) × IsAmong old program.functions × IsMovedDefinition old new
  pub statics : (new : Static) → IsAmong new other.statics → (old : Static) × IsAmong old program.statics × IsMovedStatic old new
