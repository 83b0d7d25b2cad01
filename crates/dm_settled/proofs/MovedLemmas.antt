-- The settled program is the program, moved.
use Rattle.std.specs.Prelude.{◌≡◌, refl, Bool, true, false, MatchBool, List, [], ◌∷◌, map, if◌then◌else◌}
use Rattle.std.proofs.Common.{sym, subst, inl, inr}
use Rattle.dm_type.specs.CTypes.{CType}
use Rattle.dm_tree.specs.Trees.{is_statement, Label, Spans, Tree, Trees, node, no_trees, more_trees}
use Rattle.dm_meaning.specs.Among.{IsAmong}
use Rattle.dm_meaning.specs.Programs.{Definition, Static, Program}
use Rattle.dm_spans.specs.SameTrees.{AreSame}
use Rattle.dm_spans.specs.MovedPrograms.{AllStandAt, IsMoved, AreMoved, AllMoved, IsMovedDefinition, IsMovedStatic, IsMovedProgram}
use Rattle.dm_late.specs.Settled.{nowhere, erased, all_erased, spot, settled, all_settled, erased_definition, erased_static, erased_program}

both_ways : (A B : Type 0) (b : Bool) → A → B → MatchBool b A B
both_ways A B true x y = x
both_ways A B false x y = y

-- ---- expressions

all_erased_same : (at : Spans) (trees : Trees) → AreSame trees (all_erased at trees)
all_erased_same at no_trees = tt
all_erased_same at (more_trees (node label kind spans parts) rest) = ((refl, refl, all_erased_same at parts), all_erased_same at rest)

pub all_erased_stand : (at : Spans) (trees : Trees) → AllStandAt at (all_erased at trees)
all_erased_stand at no_trees = tt
all_erased_stand at (more_trees (node label kind spans parts) rest) = ((refl, all_erased_stand at parts), all_erased_stand at rest)

all_erased_moved : (at : Spans) (trees : Trees) → AreMoved trees (all_erased at trees)
all_erased_moved at no_trees = tt
all_erased_moved at (more_trees (node label kind spans parts) rest) = (
  (
    refl,
    refl,
    both_ways (AreMoved parts (all_erased at parts)) (AreSame parts (all_erased at parts) × AllStandAt at (all_erased at parts)) (is_statement label)
        (all_erased_moved at parts) (all_erased_same at parts, all_erased_stand at parts),
  ),
  all_erased_moved at rest,
)

erased_moved : (at : Spans) (tree : Tree) → IsMoved tree (erased at tree)
erased_moved at tree = (all_erased_moved at (more_trees tree no_trees)).0

-- ---- statements

node_moved : (label : Label) (kind : CType) (spans : Spans) (parts : Trees) → AreMoved parts (all_settled parts) → (b : Bool) → is_statement label ≡ b
    → IsMoved (node label kind spans parts) (if b then node label kind nowhere (all_settled parts) else node label kind (spot spans) (all_erased (spot spans) parts))
node_moved label kind spans parts m true e =
    (refl, refl, subst (λ b. MatchBool b (AreMoved parts (all_settled parts)) (AreSame parts (all_settled parts) × AllStandAt nowhere (all_settled parts))) (sym e) m)
node_moved label kind spans parts m false e = (
  refl,
  refl,
  subst (λ b. MatchBool b (AreMoved parts (all_erased (spot spans) parts)) (AreSame parts (all_erased (spot spans) parts) × AllStandAt (spot spans) (all_erased (spot spans) parts)))
      (sym e) (all_erased_same (spot spans) parts, all_erased_stand (spot spans) parts),
)

mutual
  settled_moved : (tree : Tree) → IsMoved tree (settled tree)
  settled_moved (node label kind spans parts) = node_moved label kind spans parts (all_settled_moved parts) (is_statement label) refl

  all_settled_moved : (trees : Trees) → AreMoved trees (all_settled trees)
  all_settled_moved no_trees = tt
  all_settled_moved (more_trees first rest) = (settled_moved first, all_settled_moved rest)

-- ---- programs

all_moved : (trees : List Tree) → AllMoved trees (map (erased nowhere) trees)
all_moved [] = tt
all_moved (tree ∷ trees) = (erased_moved nowhere tree, all_moved trees)

-- what is among the images is one of something
among_images : {X Y : Type 0} (f : X → Y) (y : Y) (xs : List X) → IsAmong y (map f xs) → (x : X) × IsAmong x xs × (y ≡ f x)
among_images f y [] among = absurd among
among_images f y (x ∷ xs) (inl e) = (x, inl refl, e)
among_images f y (x ∷ xs) (inr among) = let one = among_images f y xs among in (one.0, inr one.1, one.2)

definition_moved : (old : Definition) → IsMovedDefinition old (erased_definition old)
definition_moved old = record { function = refl; parameters = refl; body = settled_moved old.body }

static_moved : (old : Static) → IsMovedStatic old (erased_static old)
static_moved old = record { declared = refl; initialiser = refl; expressions = all_moved old.expressions }

pub program_moved : (program : Program) → IsMovedProgram program (erased_program program)
program_moved program = record {
  declared = refl;
  table = refl;
  functions = λ new among. let one = among_images erased_definition new program.functions among in
      (one.0, one.1, subst (IsMovedDefinition one.0) (sym one.2) (definition_moved one.0));
  statics = λ new among. let one = among_images erased_static new program.statics among in
      (one.0, one.1, subst (IsMovedStatic one.0) (sym one.2) (static_moved one.0));
}
