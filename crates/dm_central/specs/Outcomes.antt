-- What meets a step of a tree of the new program in a tree of the old one that agrees with it.
--     AgreesBehind change stage mode world beside effects kind hole other      the trees agree behind a call with these effects
--     StepAgrees change stage mode world beside move other      a step agrees with one of the old tree
--     Met change stage mode world locks beside other move      the six outcomes of a step
--     AreReady change mode objects stage world locks      the parameters of the added function can be read
--     IsAtCall change stage mode world locks beside kind other inner named      at a call of the added function, before it is evaluated
--     AreSafe stage mode world locks beside other      the expressions that always come to something do so here
use Rattle.std.specs.Prelude.{◌≡◌, ◌⊎◌, ℕ, Bool, true, false, List, [], ◌∷◌, length, Some}
use Rattle.dm_token.specs.declared.place.Place.{Place}
use Rattle.dm_type.specs.CTypes.{CType}
use Rattle.dm_tree.specs.Trees.{call, Tree, kind_of}
use Rattle.dm_meaning.specs.Among.{IsAmong}
use Rattle.dm_meaning.specs.Values.{At, Value, numbered, overlaps_any}
use Rattle.dm_meaning.specs.Operations.{of_value, World, Scene, Objects, object_named, whole}
use Rattle.dm_meaning.specs.Running.{evaluates, Run, done, to_do, Runs, more_runs, begun, Open, every, Hole, within, Holes, in_others, filled_in, all_filled_in, IsOpen, AreOpen, locks_in}
use Rattle.dm_meaning.specs.Expressions.{Move, goes, calls, fails, exits, moves, kind_of_run}
use Rattle.dm_meaning.specs.Steps.{lacks_value}
use Rattle.dm_meaning.specs.Called.{Called}
use Rattle.dm_meaning.specs.Memory.{look_up}
use Rattle.dm_meaning.specs.Causes.{is_unset}
use Rattle.dm_meaning.proofs.MatchLemmas.{IsNamedRun, parameter_block}
use Rattle.dm_meaning.specs.CalledWithAll.{given}
use Rattle.dm_meaning.proofs.PassRunLemmas.{MoveYieldsAll, HaveCome}
use Rattle.dm_rewrite.specs.Computed.{Computed, computed, IsPure}
use Rattle.dm_rewrite.specs.Closed.{Avoids, MemoryAvoids, IsPlace, IsClosedIn}
use Rattle.dm_rewrite.specs.PureSteps.{Meets}
use Rattle.dm_rewrite.specs.Effects.{Effect, on_others, Stage, target_effects, effects_of, lock_effects, call_effects, IsFree, ChangesOnly, IsNoMore}
use Rattle.dm_central.specs.Added.{IsAdded}
use Rattle.dm_central.specs.Standing.{StandsIn}
use Rattle.dm_central.specs.Arguments.{Way, AreCalm, AllFollowed, runs_at, trees_at, StandsWhole}
use Rattle.dm_central.specs.Agreement.{Stood, a_value, a_tree, Entry, Mode, outside, is_inside, entries_of, IsPassed, RunAgrees, RunsAgree}

-- ---- steps that agree

-- no pointer in the value leads to a closed object
abbrev pub AvoidsClosed : Stage → Value → Type 0
AvoidsClosed stage value = (n : ℕ) → IsAmong n stage.closed → Avoids n value

-- The call returns such a value into both trees, in whatever world it leaves, which differs only in what it may write. In the old tree what stands
-- for the call may have locked what it has written.
abbrev pub AgreesBehind : Called → Stage → Mode → World → List Effect → List Effect → CType → Hole → Hole → Type 0
AgreesBehind change stage mode world beside effects kind hole other =
    (later : World) → ChangesOnly stage effects world later → (value : Value) (locks : List At) → lacks_value kind value ≡ false → AvoidsClosed stage value
    → IsNoMore stage effects (lock_effects locks)
    → RunAgrees change stage mode later beside (filled_in hole (done kind (of_value value) [])) (filled_in other (done kind (of_value value) locks))

-- likewise of operands, behind those with the effects `before`
abbrev pub AllAgreeBehind : Called → Stage → Mode → World → List Effect → List Effect → Open → List Effect → CType → Holes → Holes → Type 0
AllAgreeBehind change stage mode world before beside opens effects kind holes others =
    (later : World) → ChangesOnly stage effects world later → (value : Value) (locks : List At) → lacks_value kind value ≡ false → AvoidsClosed stage value
    → IsNoMore stage effects (lock_effects locks)
    → RunsAgree change stage mode later before beside opens (all_filled_in holes (done kind (of_value value) [])) (all_filled_in others (done kind (of_value value) locks))

-- where the old step is undefined, nothing is asked
abbrev pub StepAgrees : Called → Stage → Mode → World → List Effect → Move Run Hole → Move Run Hole → Type 0
StepAgrees change stage mode world beside m (fails cause place) = Unit {0}
StepAgrees change stage mode world beside (goes after run) (goes other_after other) = (after ≡ other_after) × RunAgrees change stage mode after beside run other
StepAgrees change stage mode world beside (calls f arguments kind hole) (calls g others other_kind other) =
    (f ≡ change.rename g) × (arguments ≡ others) × (kind ≡ other_kind) × AgreesBehind change stage mode world beside (call_effects stage.quiet (Some g)) kind hole other
StepAgrees change stage mode world beside (exits status) (exits other) = status ≡ other
StepAgrees change stage mode world beside m n = ⊥

abbrev pub StepsAgree : Called → Stage → Mode → World → List Effect → List Effect → Open → Move Runs Holes → Move Runs Holes → Type 0
StepsAgree change stage mode world before beside opens m (fails cause place) = Unit {0}
StepsAgree change stage mode world before beside opens (goes after runs) (goes other_after others) =
    (after ≡ other_after) × RunsAgree change stage mode after before beside opens runs others
StepsAgree change stage mode world before beside opens (calls f arguments kind holes) (calls g others other_kind other) =
    (f ≡ change.rename g) × (arguments ≡ others) × (kind ≡ other_kind)
    × AllAgreeBehind change stage mode world before beside opens (call_effects stage.quiet (Some g)) kind holes other
StepsAgree change stage mode world before beside opens (exits status) (exits other) = status ≡ other
StepsAgree change stage mode world before beside opens m n = ⊥

-- ---- what meets a step

-- a step of the old tree
pub record IsStepped (change : Called) (stage : Stage) (mode : Mode) (world : World) (locks : List At) (beside : List Effect) (other : Run) (m : Move Run Hole) : Type 0 where
  pub step : Move Run Hole
  pub among : IsAmong step (moves stage.scene world locks other)
  pub agrees : StepAgrees change stage mode world beside m step

-- none
pub record HasStood (change : Called) (stage : Stage) (mode : Mode) (world : World) (beside : List Effect) (other : Run) (m : Move Run Hole) : Type 0 where
  pub run : Run
  pub is : m ≡ goes world run
  pub agrees : RunAgrees change stage mode world beside run other

-- all steps of an untouched argument, where a parameter is read
pub record IsEvaluatedAtOnce (change : Called) (stage : Stage) (mode : Mode) (world : World) (beside : List Effect) (other : Run) (m : Move Run Hole) : Type 0 where
  pub inner : is_inside mode ≡ true
  pub hole : Hole
  pub opened : IsOpen hole
  pub tree : Run
  pub pure : IsPure tree
  pub is : other ≡ filled_in hole tree
  pub no_name : target_effects stage.scene.objects tree ≡ on_others ∷ []
  pub value : Value
  pub comes : (found : Computed) → computed stage.scene world tree ≡ Some found → found.result ≡ of_value value
  pub run : Run
  pub goes_on : m ≡ goes world run
  pub agrees : RunAgrees change stage mode world beside run (filled_in hole (done (kind_of_run tree) (of_value value) []))

-- a part that neither stores nor calls comes to nothing, or reads what is locked: the old program can go wrong
pub record FailsInside (stage : Stage) (world : World) (locks : List At) (other : Run) : Type 0 where
  pub hole : Hole
  pub opened : IsOpen hole
  pub tree : Run
  pub pure : IsPure tree
  pub is : other ≡ filled_in hole tree
  pub meets : Meets locks (computed stage.scene world tree)

-- The expression with arguments that have come to these values; those of untouched ones are known from evaluations aside.
pub record Entered (change : Called) (stage : Stage) (world : World) (values : List Value) (kind : CType) (run : Run) : Type 0 where
  pub kinds : List CType
  pub ways : List Way
  pub inner : Runs
  pub effects : List Effect
  pub typed : kind ≡ kind_of change.body
  pub stands : StandsWhole change (given change.added.parameters kinds) (given change.added.parameters (trees_at ways))
      (given change.added.parameters (runs_at ways inner)) change.body run
  pub come : HaveCome kinds values inner
  pub each : length values ≡ length change.added.parameters
  pub followed : AllFollowed stage world effects ways inner
  pub calm : AreCalm stage run ways

-- where the tree neither stores nor calls and comes to something, it is a value of this type, in which no pointer leads to a closed object
abbrev pub GivesOne : Stage → World → CType → Run → Type 0
GivesOne stage world kind run =
    IsPure run → (found : Computed) → computed stage.scene world run ≡ Some found → (value : Value) × (found.result ≡ of_value value) × (lacks_value kind value ≡ false) × AvoidsClosed stage value

-- the added function is called; in the old tree its expression stands in this place
pub record Enters (change : Called) (stage : Stage) (mode : Mode) (world : World) (beside : List Effect) (other : Run) (m : Move Run Hole) : Type 0 where
  pub elsewhere : is_inside mode ≡ false
  pub values : List Value
  pub kind : CType
  pub hole : Hole
  pub called : m ≡ calls change.added.function values kind hole
  pub other_hole : Hole
  pub opened : IsOpen other_hole
  pub run : Run
  pub is : other ≡ filled_in other_hole run
  -- the expression names no object, and gives a value of the call's type
  pub no_name : target_effects stage.scene.objects run ≡ on_others ∷ []
  pub typed : kind_of_run run ≡ kind
  pub gives : GivesOne stage world kind run
  pub entered : Entered change stage world values kind run
  pub agrees : AgreesBehind change stage mode world beside (effects_of stage run) kind hole other_hole

-- or it stands nowhere, since the call is part of an untouched argument; but what it comes to is known
pub record EntersAside (change : Called) (stage : Stage) (mode : Mode) (world : World) (beside : List Effect) (other : Run) (m : Move Run Hole) : Type 0 where
  pub elsewhere : is_inside mode ≡ false
  pub values : List Value
  pub kind : CType
  pub hole : Hole
  pub called : m ≡ calls change.added.function values kind hole
  pub run : Run
  pub pure : IsPure run
  pub found : Computed
  pub is : computed stage.scene world run ≡ Some found
  pub value : Value
  pub comes : found.result ≡ of_value value
  pub lacks : lacks_value kind value ≡ false
  pub entered : Entered change stage world values kind run
  pub closed : (n : ℕ) → IsAmong n stage.closed → IsClosedIn n stage.scene.objects run
  pub agrees : (later : World) → ChangesOnly stage [] world later → RunAgrees change stage mode later beside (filled_in hole (done kind (of_value value) [])) other

abbrev pub Met : Called → Stage → Mode → World → List At → List Effect → Run → Move Run Hole → Type 0
Met change stage mode world locks beside other m =
    IsStepped change stage mode world locks beside other m
    ⊎ (HasStood change stage mode world beside other m
    ⊎ (IsEvaluatedAtOnce change stage mode world beside other m
    ⊎ (FailsInside stage world locks other
    ⊎ (Enters change stage mode world beside other m ⊎ EntersAside change stage mode world beside other m))))

-- ---- arguments that may be read late

-- the tree comes to something, and reads objects that have numbers
abbrev pub ComesSafely : Scene → World → Run → Type 0
ComesSafely scene world run =
    (found : Computed) × (computed scene world run ≡ Some found) × ((at : At) → IsAmong at found.reads → (n : ℕ) × (at.name ≡ numbered n))

-- a lock is one of the tree's, or on an object on which trees beside it have an effect
abbrev pub AreCovered : Stage → List At → List Effect → Run → Type 0
AreCovered stage locks beside other =
    (lock : At) → IsAmong lock locks → IsAmong lock (locks_in other) ⊎ ((n : ℕ) → lock.name ≡ numbered n → IsFree stage.closed beside n → ⊥)

-- The expressions that always come to something do so here, where they stand in this tree; and other locks than its own are of trees beside it.
abbrev pub AreSafe : Stage → Mode → World → List At → List Effect → Run → Type 0
AreSafe stage mode world locks beside other =
    (safe : Tree → Bool) → mode ≡ outside safe
    → AreCovered stage locks beside other × ((tree : Tree) → safe tree ≡ true → StandsIn (begun tree) other → ComesSafely stage.scene world (begun tree))

-- ---- at a call

-- A tree of the new program is a call of the added function whose arguments aren't all evaluated, and the old one is the expression with old
-- arguments. No pointer leads to closed objects.
pub record IsAtCall (change : Called) (stage : Stage) (mode : Mode) (world : World) (locks : List At) (beside : List Effect) (kind : CType) (other : Run) (inner : Runs) (named : Run) : Type 0 where
  pub passed : IsPassed change stage mode world beside (evaluates call) kind other inner
  pub is_named : IsNamedRun change named
  pub added : IsAdded change
  pub avoid : (n : ℕ) → IsAmong n stage.closed → MemoryAvoids n world.memory
  pub safe : AreSafe stage mode world locks beside other
  pub closed : (n : ℕ) → IsAmong n stage.closed → IsClosedIn n stage.scene.objects other ⊎ IsPlace n stage.scene.objects other

-- the call with its arguments
abbrev pub calling : CType → Place → Run → Runs → Run
calling kind place named parts = to_do (evaluates call) kind place (more_runs named parts)

abbrev pub calling_hole : CType → Place → Run → Holes → Hole
calling_hole kind place named holes = within (evaluates call) kind place (in_others named holes)

-- The added function is called in an argument, where the old arguments have its expression.
pub record IsEntering (change : Called) (stage : Stage) (mode : Mode) (world : World) (beside : List Effect) (kinds : List CType) (inner : Runs) (kind : CType) (holes : Holes) (values : List Value) : Type 0 where
  pub elsewhere : is_inside mode ≡ false
  pub other_holes : Holes
  pub opened : AreOpen every other_holes
  pub run : Run
  pub is : inner ≡ all_filled_in other_holes run
  pub no_name : target_effects stage.scene.objects run ≡ on_others ∷ []
  pub behind : AllAgreeBehind change stage mode world [] beside every (effects_of stage run) kind holes other_holes
  pub yields : MoveYieldsAll kinds (calls change.added.function values kind holes)
  pub typed : kind_of_run run ≡ kind
  pub gives : GivesOne stage world kind run
  pub entered : Entered change stage world values kind run

-- ---- parameters

-- an untouched argument comes to the value of its parameter, if to anything
abbrev pub IsClaimed : Stage → World → Value → Stood → Type 0
IsClaimed stage world value a_value = Unit {0}
IsClaimed stage world value (a_tree tree) =
    IsPure (begun tree) × ((found : Computed) → computed stage.scene world (begun tree) ≡ Some found → found.result ≡ of_value value)

-- The parameter's object is there, holds the value, and is nowhere locked.
pub record IsReady (change : Called) (objects : Objects) (stage : Stage) (world : World) (locks : List At) (entry : Entry) : Type 0 where
  pub named : object_named objects entry.parameter ≡ Some entry.stored
  pub found : look_up world.memory entry.stored ≡ Some (parameter_block change entry.parameter entry.value)
  pub free : overlaps_any (whole (numbered entry.stored)) locks ≡ false
  pub set : is_unset entry.value ≡ false
  pub claimed : IsClaimed stage world entry.value entry.stood

abbrev pub AreReady : Called → Mode → Objects → Stage → World → List At → Type 0
AreReady change mode objects stage world locks = (entry : Entry) → IsAmong entry (entries_of mode) → IsReady change objects stage world locks entry
