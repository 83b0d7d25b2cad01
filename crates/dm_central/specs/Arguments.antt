-- The arguments of a call of an added function, and its expression with the arguments in it, which the old program has in place of the call.
--     Way      how an argument is passed
--     ReadsApart stage effects tree      the tree reads nothing that trees with these effects write
--     AreCalm stage other ways      no untouched argument reads what the expression writes
--     IsFollowed stage world effects tree aside      the evaluation of an untouched argument, which the old program hasn't begun
--     StandsWhole change kind_at tree_at run_at tree other      the expression, with arguments where the added function reads its parameters
--     ReadsSomewhere p tree      the parameter is read in some part, but not in a type name
--     ReadsFirst p tree      the parameter is read in a part that may be evaluated as soon as the expression is
--     StandsOpen part other      a part of a tree under evaluation that may be evaluated
use Rattle.std.specs.Prelude.{◌≡◌, ◌⊎◌, ℕ, true, false, IsTrue, List, [], ◌∷◌, Option, Some, None}
use Rattle.dm_type.specs.CTypes.{CType, bare}
use Rattle.dm_tree.specs.Trees.{object, read, Spans, Tree, Trees, node, no_trees, more_trees, label_of, kind_of, trees_of}
use Rattle.dm_meaning.specs.Among.{IsAmong}
use Rattle.dm_meaning.specs.Values.{numbered, At}
use Rattle.dm_meaning.specs.Objects.{object_of}
use Rattle.dm_meaning.specs.Causes.{is_other}
use Rattle.dm_meaning.specs.Operations.{World}
use Rattle.dm_meaning.specs.Running.{evaluates, Run, done, to_do, Runs, no_runs, more_runs, begun, Open, first_open, others_open, open_of, open_parts, Hole, filled_in, IsOpen}
use Rattle.dm_meaning.specs.Expressions.{kind_of_run}
use Rattle.dm_meaning.specs.Replaced.{relabelled}
use Rattle.dm_meaning.specs.Called.{Called, new_of, means_the_same, Gives}
use Rattle.dm_meaning.specs.Statements.{type_declared}
use Rattle.dm_meaning.proofs.RunLemmas.{redone}
use Rattle.dm_meaning.proofs.MatchLemmas.{may_stand}
use Rattle.dm_rewrite.specs.Computed.{Computed, computed, IsPure}
use Rattle.dm_rewrite.specs.Aside.{Follows}
use Rattle.dm_rewrite.specs.Effects.{Effect, Stage, effects_of, IsFree}
use Rattle.dm_central.specs.Standing.{standing_of, HasNoMore}

-- wherever the tree is evaluated
abbrev pub ReadsApart : Stage → List Effect → Run → Type 0
ReadsApart stage effects tree =
    (world : World) (found : Computed) → computed stage.scene world tree ≡ Some found → (at : At) → IsAmong at found.reads
    → (n : ℕ) → at.name ≡ numbered n → IsFree stage.closed effects n

-- ---- arguments

-- An argument is evaluated in both programs at once; or it is this tree in the old program, which stands untouched until it is read, never, once
-- or several times.
pub data Way : Type 0 where
  at_once : Way
  untouched : Tree → Way

-- The untouched arguments read nothing that this tree writes, in which they stand.
abbrev pub AreCalm : Stage → Run → List Way → Type 0
AreCalm stage other ways = (tree : Tree) → IsAmong (untouched tree) ways → ReadsApart stage (effects_of stage other) (begun tree)

-- the evaluation of an untouched argument, followed aside while trees with these effects are evaluated
pub record IsFollowed (stage : Stage) (world : World) (effects : List Effect) (tree : Tree) (aside : Run) : Type 0 where
  pub pure : IsPure (begun tree)
  pub pure_aside : IsPure aside
  pub typed : kind_of_run aside ≡ kind_of_run (begun tree)
  pub apart : ReadsApart stage effects (begun tree)
  pub follows : Follows stage.scene world (begun tree) aside
  pub parts : HasNoMore aside (begun tree)

abbrev pub AllFollowed : Stage → World → List Effect → List Way → Runs → Type 0
AllFollowed stage world effects [] no_runs = Unit {0}
AllFollowed stage world effects (at_once ∷ ways) (more_runs run rest) = AllFollowed stage world effects ways rest
AllFollowed stage world effects (untouched tree ∷ ways) (more_runs aside rest) =
    IsFollowed stage world effects tree aside × AllFollowed stage world effects ways rest
AllFollowed stage world effects ways runs = ⊥

-- the arguments under evaluation that stand in the old program, and the trees that do
abbrev pub runs_at : List Way → Runs → List (Option Run)
runs_at [] runs = []
runs_at (way ∷ ways) no_runs = []
runs_at (at_once ∷ ways) (more_runs run rest) = Some run ∷ runs_at ways rest
runs_at (untouched tree ∷ ways) (more_runs run rest) = None ∷ runs_at ways rest

abbrev pub trees_at : List Way → List (Option Tree)
trees_at [] = []
trees_at (at_once ∷ ways) = None ∷ trees_at ways
trees_at (untouched tree ∷ ways) = Some tree ∷ trees_at ways

-- ---- the expression with arguments in it

-- the value of a parameter is read
pub record ReadsParameter (change : Called) (tree : Tree) (kind : CType) : Type 0 where
  pub parameter : ℕ
  pub spans : Spans
  pub named_kind : CType
  pub named_spans : Spans
  pub is : tree ≡ node read kind spans (more_trees (node (object parameter) named_kind named_spans no_trees) no_trees)
  pub own : is_other kind (object_of (bare (type_declared (new_of change) parameter)) false) ≡ false

abbrev mutual
  -- A tree of the added function and one of the old program are the same, but for untouched arguments where the first reads parameters; these are
  -- expressions that give values.
  pub IsSameBut : Called → (ℕ → Option (Option Tree)) → Tree → Tree → Type 0
  IsSameBut change tree_at (node label kind spans parts) other =
      ((label ≡ relabelled change.rename (label_of other)) × (kind ≡ kind_of other) × (means_the_same change.old (label_of other) ≡ true) × AreSameBut change tree_at parts (trees_of other))
      ⊎ ((reads : ReadsParameter change (node label kind spans parts) (kind_of other)) × (tree_at reads.parameter ≡ Some (Some other)) × Gives other)

  pub AreSameBut : Called → (ℕ → Option (Option Tree)) → Trees → Trees → Type 0
  AreSameBut change tree_at no_trees no_trees = Unit {0}
  AreSameBut change tree_at (more_trees first rest) (more_trees other others) = IsSameBut change tree_at first other × AreSameBut change tree_at rest others
  AreSameBut change tree_at parts others = ⊥

-- a part of which nothing is evaluated, nor any argument in it
pub record IsUntouched (change : Called) (tree_at : ℕ → Option (Option Tree)) (tree : Tree) (other : Run) : Type 0 where
  pub was : Tree
  pub same : IsSameBut change tree_at tree was
  pub is : other ≡ begun was

-- an argument under evaluation stands where the added function reads a parameter of this type
pub record IsStanding (change : Called) (kind_at : ℕ → Option CType) (run_at : ℕ → Option (Option Run)) (tree : Tree) (other : Run) : Type 0 where
  pub kind : CType
  pub reads : ReadsParameter change tree kind
  pub typed : kind_at reads.parameter ≡ Some kind
  pub stands : run_at reads.parameter ≡ Some (Some other)

abbrev mutual
  -- arguments under evaluation stand in parts that may be evaluated
  pub Stands : Called → (ℕ → Option CType) → (ℕ → Option (Option Tree)) → (ℕ → Option (Option Run)) → Tree → Run → Type 0
  Stands change kind_at tree_at run_at tree (done kind result locks) = ⊥
  Stands change kind_at tree_at run_at (node label kind spans parts) (to_do doing other_kind place others) =
      (evaluates label ≡ redone change.rename doing) × (kind ≡ other_kind) × (may_stand change.old true doing ≡ true)
      × StandBelow change kind_at tree_at run_at (open_parts doing) parts others

  pub StandBelow : Called → (ℕ → Option CType) → (ℕ → Option (Option Tree)) → (ℕ → Option (Option Run)) → Open → Trees → Runs → Type 0
  StandBelow change kind_at tree_at run_at opens no_trees no_runs = Unit {0}
  StandBelow change kind_at tree_at run_at opens (more_trees first rest) (more_runs other others) =
      (IsUntouched change tree_at first other
      ⊎ (IsTrue (first_open opens) × (IsStanding change kind_at run_at first other ⊎ Stands change kind_at tree_at run_at first other)))
      × StandBelow change kind_at tree_at run_at (others_open opens) rest others
  StandBelow change kind_at tree_at run_at opens parts others = ⊥

-- the whole expression may be an argument
abbrev pub StandsWhole : Called → (ℕ → Option CType) → (ℕ → Option (Option Tree)) → (ℕ → Option (Option Run)) → Tree → Run → Type 0
StandsWhole change kind_at tree_at run_at tree other =
    IsUntouched change tree_at tree other ⊎ (IsStanding change kind_at run_at tree other ⊎ Stands change kind_at tree_at run_at tree other)

-- ---- where a parameter is read, and where it is first

pub record IsParameterNode (p : ℕ) (tree : Tree) : Type 0 where
  pub kind : CType
  pub spans : Spans
  pub named_kind : CType
  pub named_spans : Spans
  pub is : tree ≡ node read kind spans (more_trees (node (object p) named_kind named_spans no_trees) no_trees)

abbrev mutual
  pub ReadsSomewhere : ℕ → Tree → Type 0
  ReadsSomewhere p (node label kind spans parts) = IsParameterNode p (node label kind spans parts) ⊎ ReadsBelow p (standing_of label) parts

  pub ReadsBelow : ℕ → Open → Trees → Type 0
  ReadsBelow p stand no_trees = ⊥
  ReadsBelow p stand (more_trees first rest) = (IsTrue (first_open stand) × ReadsSomewhere p first) ⊎ ReadsBelow p (others_open stand) rest

abbrev mutual
  pub ReadsFirst : ℕ → Tree → Type 0
  ReadsFirst p (node label kind spans parts) = IsParameterNode p (node label kind spans parts) ⊎ ReadsFirstBelow p (open_of label) parts

  pub ReadsFirstBelow : ℕ → Open → Trees → Type 0
  ReadsFirstBelow p opens no_trees = ⊥
  ReadsFirstBelow p opens (more_trees first rest) = (IsTrue (first_open opens) × ReadsFirst p first) ⊎ ReadsFirstBelow p (others_open opens) rest

-- ---- where an argument stands

pub record StandsOpen (part other : Run) : Type 0 where
  pub hole : Hole
  pub opened : IsOpen hole
  pub is : other ≡ filled_in hole part
