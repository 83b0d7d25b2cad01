-- The one relation between trees under evaluation of the new program and of the old one, where calls of an added function stand in place of its
-- expression: their arguments are evaluated in both programs at once, or stand untouched in the old one until they are read.
--     Mode      the trees stand in other functions, or in the added one, whose parameters are known
--     BegunOutside change stage safe effects tree other      trees of which nothing is evaluated, beside trees with these effects
--     RunAgrees change stage mode world effects run other      trees under evaluation, beside trees with these effects
use Rattle.std.specs.Prelude.{◌≡◌, ◌⊎◌, ℕ, Bool, true, false, List, [], ◌∷◌, ◌++◌, length, map, Option, Some, None, if◌then◌else◌}
use Rattle.dm_token.specs.declared.place.Place.{Place}
use Rattle.dm_type.specs.CTypes.{CType, bare}
use Rattle.dm_tree.specs.Trees.{Label, object, read, call, Tree, Trees, node, no_trees, more_trees, label_of, kind_of, trees_of}
use Rattle.dm_meaning.specs.Among.{IsAmong}
use Rattle.dm_meaning.specs.Values.{numbered, At, Value}
use Rattle.dm_meaning.specs.Objects.{object_of}
use Rattle.dm_meaning.specs.Causes.{is_other}
use Rattle.dm_meaning.specs.Operations.{of_value, designates, World, whole}
use Rattle.dm_meaning.specs.Running.{Doing, evaluates, Run, done, to_do, Runs, no_runs, more_runs, begun, all_begun, Open, every, first_open, others_open, open_of, open_parts}
use Rattle.dm_meaning.specs.Replaced.{relabelled}
use Rattle.dm_meaning.specs.Called.{Called, new_of, Gives}
use Rattle.dm_meaning.specs.CalledWithAll.{given, times_named}
use Rattle.dm_meaning.specs.Extending.{AreAmong}
use Rattle.dm_meaning.specs.Statements.{type_declared}
use Rattle.dm_meaning.proofs.RunLemmas.{redone}
use Rattle.dm_meaning.proofs.MatchLemmas.{may_stand, IsNamedRun}
use Rattle.dm_meaning.proofs.StandLemmas.{run_list}
use Rattle.dm_meaning.proofs.PassRunLemmas.{AllYield}
use Rattle.dm_rewrite.specs.Computed.{IsPure}
use Rattle.dm_rewrite.specs.Closed.{only_closed, IsClosedInAll}
use Rattle.dm_rewrite.specs.Effects.{Effect, Stage, effects_of, effects_in}
use Rattle.dm_central.specs.Arguments.{ReadsApart, Way, at_once, untouched, AreCalm, AllFollowed, runs_at, trees_at, IsSameBut, StandsWhole, ReadsSomewhere, ReadsFirst}

-- ---- parameters in the added function

-- what stands in the old program where a parameter is read: the value, or an untouched argument that comes to it
pub data Stood : Type 0 where
  a_value : Stood
  a_tree : Tree → Stood

-- a parameter, the number of its object, the argument's value and what stands for it
pub record Entry : Type 0 where
  pub parameter : ℕ
  pub stored : ℕ
  pub value : Value
  pub stood : Stood

-- The trees stand in other functions, where some expressions always come to something; or in the added one, with these parameters.
pub data Mode : Type 0 where
  outside : (Tree → Bool) → Mode
  inside : List Entry → Mode

abbrev pub is_inside : Mode → Bool
is_inside (outside safe) = false
is_inside (inside entries) = true

abbrev pub entries_of : Mode → List Entry
entries_of (outside safe) = []
entries_of (inside entries) = entries

-- the parameter's name, evaluated or not
abbrev pub named_object : Entry → Bool → CType → Place → Run
named_object entry false kind place = to_do (evaluates (object entry.parameter)) kind place no_runs
named_object entry true kind place = done kind (designates (whole (numbered entry.stored))) []

abbrev pub StandsFor : Entry → Stood → CType → Run → Type 0
StandsFor entry a_value kind other = (locks : List At) × (other ≡ done kind (of_value entry.value) locks)
StandsFor entry (a_tree tree) kind other = (other ≡ begun tree) × (kind ≡ kind_of tree) × Gives tree

-- a parameter is still to be read
pub record IsReading (change : Called) (mode : Mode) (run other : Run) : Type 0 where
  pub entry : Entry
  pub among : IsAmong entry (entries_of mode)
  pub named : Bool
  pub kind : CType
  pub place : Place
  pub named_kind : CType
  pub named_place : Place
  pub is : run ≡ to_do (evaluates read) kind place (more_runs (named_object entry named named_kind named_place) no_runs)
  pub own : is_other kind (object_of (bare (type_declared (new_of change) entry.parameter)) false) ≡ false
  pub stands : StandsFor entry entry.stood kind other

-- ---- effects beside an operand

-- those of the operands that may be evaluated
abbrev pub open_effects : Stage → Open → Runs → List Effect
open_effects stage opens no_runs = []
open_effects stage opens (more_runs first rest) = (if first_open opens then effects_of stage first else []) ++ open_effects stage (others_open opens) rest

-- of those before the first operand, of the others, and of what is beside the node; the first may be evaluated
abbrev pub beside_first : Stage → Open → List Effect → List Effect → Runs → List Effect
beside_first stage opens before beside others = if first_open opens then before ++ (open_effects stage (others_open opens) others ++ beside) else beside

-- of those before the others
abbrev pub before_rest : Stage → Open → List Effect → Run → List Effect
before_rest stage opens before other = if first_open opens then before ++ effects_of stage other else before

-- ---- trees that aren't begun

-- an untouched argument is the tree that stands in the old program; it neither stores nor calls, and reads nothing that is written beside it
abbrev pub AllUntouched : Stage → List Effect → List Way → Trees → Type 0
AllUntouched stage beside [] no_trees = Unit {0}
AllUntouched stage beside (at_once ∷ ways) (more_trees first rest) = AllUntouched stage beside ways rest
AllUntouched stage beside (untouched tree ∷ ways) (more_trees first rest) =
    (first ≡ tree) × IsPure (begun tree) × ReadsApart stage beside (begun tree) × AllUntouched stage beside ways rest
AllUntouched stage beside ways trees = ⊥

-- the closed objects are only read or written by name
abbrev pub AreClosedIn : Stage → Runs → Type 0
AreClosedIn stage parts = (n : ℕ) → IsAmong n stage.closed → IsClosedInAll n stage.scene.objects only_closed parts

-- an untouched argument always comes to something, and its parameter is read somewhere in the expression; or it is read first there
abbrev pub AreLate : (Tree → Bool) → List ℕ → Tree → List Way → Type 0
AreLate safe parameters body ways =
    (tree : Tree) → IsAmong (untouched tree) ways
    → ((safe tree ≡ true) × ((p : ℕ) → given parameters ways p ≡ Some (untouched tree) → ReadsSomewhere p body))
    ⊎ ((p : ℕ) → given parameters ways p ≡ Some (untouched tree) → ReadsFirst p body)

-- a call of the added function, where the old program has its expression with these arguments in it
pub record IsCall (change : Called) (stage : Stage) (safe : Tree → Bool) (beside : List Effect) (label : Label) (kind : CType) (other : Tree) (arguments : Trees) : Type 0 where
  pub is : label ≡ call
  pub typed : kind ≡ kind_of change.body
  pub kinds : List CType
  pub ways : List Way
  pub stands : StandsWhole change (given change.added.parameters kinds) (given change.added.parameters (trees_at ways))
      (given change.added.parameters (runs_at ways (all_begun arguments))) change.body (begun other)
  pub each : length (run_list (all_begun arguments)) ≡ length change.added.parameters
  pub once : (d : ℕ) → given change.added.parameters ways d ≡ Some at_once → times_named d change.body ≡ 1
  pub untouched_ones : AllUntouched stage (effects_in stage (all_begun arguments) ++ beside) ways arguments
  pub calm : AreCalm stage (begun other) ways
  pub late : AreLate safe change.added.parameters change.body ways
  pub closed : AreClosedIn stage (all_begun arguments)

abbrev mutual
  pub BegunOutside : Called → Stage → (Tree → Bool) → List Effect → Tree → Tree → Type 0
  BegunOutside change stage safe beside (node label kind spans parts) other =
      ((label ≡ relabelled change.rename (label_of other)) × (kind ≡ kind_of other)
      × AllBegun change stage safe [] beside (open_of (label_of other)) parts (trees_of other))
      ⊎ ((arguments : Trees) × (called : IsCall change stage safe beside label kind other arguments) × BegunPasses change stage safe beside called.kinds parts arguments)

  pub AllBegun : Called → Stage → (Tree → Bool) → List Effect → List Effect → Open → Trees → Trees → Type 0
  AllBegun change stage safe before beside opens no_trees no_trees = Unit {0}
  AllBegun change stage safe before beside opens (more_trees first rest) (more_trees other others) =
      BegunOutside change stage safe (beside_first stage opens before beside (all_begun others)) first other
      × AllBegun change stage safe (before_rest stage opens before (begun other)) beside (others_open opens) rest others
  AllBegun change stage safe before beside opens trees others = ⊥

  -- the function's name, and the new arguments against the old ones
  pub BegunPasses : Called → Stage → (Tree → Bool) → List Effect → List CType → Trees → Trees → Type 0
  BegunPasses change stage safe beside kinds no_trees arguments = ⊥
  BegunPasses change stage safe beside kinds (more_trees named rest) arguments =
      IsNamedRun change (begun named) × AllYield kinds (all_begun rest) × AllBegun change stage safe [] beside every rest arguments

-- the untouched arguments of a frame's parameters
abbrev pub tree_stood : Stood → Option Tree
tree_stood a_value = None
tree_stood (a_tree tree) = Some tree

abbrev pub stood_at : List Entry → ℕ → Option (Option Tree)
stood_at entries d = given (map (λ (entry : Entry). entry.parameter) entries) (map (λ (entry : Entry). tree_stood entry.stood) entries) d

abbrev pub BegunAgrees : Called → Stage → Mode → List Effect → Tree → Tree → Type 0
BegunAgrees change stage (outside safe) beside tree other = BegunOutside change stage safe beside tree other
BegunAgrees change stage (inside entries) beside tree other = IsSameBut change (stood_at entries) tree other

-- ---- trees under evaluation

-- An operand that may not be evaluated yet isn't begun. So it doesn't matter to it what becomes of memory meanwhile.
pub record AreUnbegun (change : Called) (stage : Stage) (mode : Mode) (beside : List Effect) (run other : Run) : Type 0 where
  pub tree : Tree
  pub was : Tree
  pub is : run ≡ begun tree
  pub stands : other ≡ begun was
  pub agrees : BegunAgrees change stage mode beside tree was

abbrev pub IfOpen : Bool → Type 0 → Type 0 → Type 0
IfOpen true open_part unbegun = open_part
IfOpen false open_part unbegun = unbegun

-- A call of the added function that isn't evaluated yet. Its old arguments under evaluation stand in the old program, or are followed aside.
pub record IsPassed (change : Called) (stage : Stage) (mode : Mode) (world : World) (beside : List Effect) (doing : Doing) (kind : CType) (other : Run) (inner : Runs) : Type 0 where
  pub safe : Tree → Bool
  pub elsewhere : mode ≡ outside safe
  pub is : doing ≡ evaluates call
  pub typed : kind ≡ kind_of change.body
  pub kinds : List CType
  pub ways : List Way
  pub stands : StandsWhole change (given change.added.parameters kinds) (given change.added.parameters (trees_at ways))
      (given change.added.parameters (runs_at ways inner)) change.body other
  pub each : length (run_list inner) ≡ length change.added.parameters
  pub once : (d : ℕ) → given change.added.parameters ways d ≡ Some at_once → times_named d change.body ≡ 1
  pub followed : AllFollowed stage world (effects_in stage inner ++ beside) ways inner
  pub calm : AreCalm stage other ways
  pub late : AreLate safe change.added.parameters change.body ways
  pub closed : AreClosedIn stage inner

abbrev mutual
  pub RunAgrees : Called → Stage → Mode → World → List Effect → Run → Run → Type 0
  RunAgrees change stage mode world beside (done kind result locks) (done other_kind other_result other_locks) =
      (kind ≡ other_kind) × (result ≡ other_result) × AreAmong locks other_locks
  RunAgrees change stage mode world beside (done kind result locks) (to_do doing other_kind place parts) = ⊥
  RunAgrees change stage mode world beside (to_do doing kind place parts) (done other_kind result locks) =
      (inner : Runs) × (passed : IsPassed change stage mode world beside doing kind (done other_kind result locks) inner)
      × PassesRun change stage mode world beside passed.kinds parts inner
  RunAgrees change stage mode world beside (to_do doing kind place parts) (to_do other other_kind other_place others) =
      ((doing ≡ redone change.rename other) × (kind ≡ other_kind) × (may_stand change.old (is_inside mode) other ≡ true)
      × RunsAgree change stage mode world [] beside (open_parts other) parts others)
      ⊎ ((inner : Runs) × (passed : IsPassed change stage mode world beside doing kind (to_do other other_kind other_place others) inner)
      × PassesRun change stage mode world beside passed.kinds parts inner)

  -- operands, behind those with the effects `before`
  pub RunsAgree : Called → Stage → Mode → World → List Effect → List Effect → Open → Runs → Runs → Type 0
  RunsAgree change stage mode world before beside opens no_runs no_runs = Unit {0}
  RunsAgree change stage mode world before beside opens (more_runs first rest) (more_runs other others) =
      IfOpen (first_open opens)
      (RunAgrees change stage mode world (beside_first stage opens before beside others) first other ⊎ IsReading change mode first other)
      (AreUnbegun change stage mode beside first other)
      × RunsAgree change stage mode world (before_rest stage opens before other) beside (others_open opens) rest others
  RunsAgree change stage mode world before beside opens no_runs (more_runs other others) = ⊥
  RunsAgree change stage mode world before beside opens (more_runs first rest) no_runs = ⊥

  pub PassesRun : Called → Stage → Mode → World → List Effect → List CType → Runs → Runs → Type 0
  PassesRun change stage mode world beside kinds no_runs inner = ⊥
  PassesRun change stage mode world beside kinds (more_runs named rest) inner =
      IsNamedRun change named × AllYield kinds rest × RunsAgree change stage mode world [] beside every rest inner
