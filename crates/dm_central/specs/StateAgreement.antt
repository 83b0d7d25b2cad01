-- The one relation between states of the new program and of the old one, in one memory, which has the objects of the parameters too. Three
-- situations are told apart: both programs are in functions that agree; or the new one is in the added function, and the old one in its
-- expression; or the new one is in it for a call that is part of an untouched argument, while the old one stands still.
--     CallersAgree change known statics spare starts g callers others      frames that wait, where the old program is in the function g
--     StateAgrees, InsideAgrees, AsideAgrees      the three situations
--     Related change known w spare starts state other      one of them, where the new program may take w steps more before the old one has to move
--     Met change known w spare starts other state      what meets a step to this state
--     IsSteady change known starts other      what the old program has to keep
use Rattle.std.specs.Prelude.{◌≡◌, ◌⊎◌, ℕ, zero, suc, ◌≤◌, ◌+◌, false, List, [], ◌∷◌, ◌++◌, map, drop, Some, None}
use Rattle.dm_token.specs.declared.place.Place.{Place}
use Rattle.dm_type.specs.CTypes.{CType}
use Rattle.dm_tree.specs.Trees.{return, is_statement, Spans, Tree, node, no_trees, more_trees, label_of, kind_of}
use Rattle.dm_meaning.specs.Among.{IsAmong}
use Rattle.dm_meaning.specs.Called.{Called}
use Rattle.dm_meaning.specs.Lifetimes.{numbers_of}
use Rattle.dm_meaning.specs.Memory.{look_up, killed}
use Rattle.dm_meaning.specs.MoreObjects.{IsMade, with_memory}
use Rattle.dm_meaning.specs.Operations.{of_value, World, Objects}
use Rattle.dm_meaning.specs.Programs.{Definition, Program}
use Rattle.dm_meaning.specs.Running.{Run, done, Hole, begun, filled_in, IsOpen, hole_in, locks_in}
use Rattle.dm_meaning.specs.Simulation.{GoesWrong}
use Rattle.dm_meaning.specs.States.{Use, returns, Task, begins, evaluates, hands_back, Caller, State}
use Rattle.dm_meaning.specs.Statements.{Turned, unfolded}
use Rattle.dm_meaning.specs.Steps.{lacks_value, Step}
use Rattle.dm_meaning.specs.Units.{machine_of}
use Rattle.dm_meaning.specs.Values.{At, Value}
use Rattle.dm_meaning.proofs.EntryLemmas.{AreFresh, with_entries, objects_in}
use Rattle.dm_meaning.proofs.KnownLemmas.{NamesKnown}
use Rattle.dm_meaning.proofs.LikenessLemmas as alike
use Rattle.dm_meaning.proofs.PassRunLemmas.{Entry as Stored}
use Rattle.dm_meaning.proofs.PassStateLemmas.{Spare, AreHeld, size}
use Rattle.dm_meaning.proofs.PassStatementLemmas.{body_left, limit, share, tasks_left, most}
use Rattle.dm_meaning.proofs.RunLemmas.{renamed_objects}
use Rattle.dm_meaning.proofs.ShrinkLemmas.{left_in, hole_left}
use Rattle.dm_meaning.proofs.YieldLemmas.{Yields, HoleYields}
use Rattle.dm_rewrite.specs.Closed.{MemoryAvoids, IsClosedIn}
use Rattle.dm_rewrite.specs.Computed.{Computed, computed, IsPure}
use Rattle.dm_rewrite.specs.Effects.{Effect, Stage, effects_of, call_effects, lock_effects, ChangesOnly, IsNoMore}
use Rattle.dm_central.specs.Agreement.{Stood, a_value, a_tree, Entry, outside, inside, IsReading, RunAgrees}
use Rattle.dm_central.specs.Arguments.{ReadsApart}
use Rattle.dm_central.specs.Bodies.{Known, closed_numbers, frame_stage, AreNamedOnce, Agrees, DefinitionAgrees}
use Rattle.dm_central.specs.Outcomes.{AvoidsClosed, AgreesBehind, AreSafe}

-- ---- what is left to do

-- no expression of the new program is larger than the bodies of all its functions
abbrev pub TreeFits : Called → Known → Tree → Tree → Type 0
TreeFits change known tree other = Agrees change known tree other × (left_in (begun tree) ≤ limit change)

abbrev pub DefinitionFits : Called → Known → Definition → Definition → Type 0
DefinitionFits change known definition other = DefinitionAgrees change known definition other × (body_left definition ≤ limit change)

-- full expressions of which nothing is evaluated
pub record RunFits (change : Called) (known : Known) (run other : Run) : Type 0 where
  pub tree : Tree
  pub was : Tree
  pub is : run ≡ begun tree
  pub stands : other ≡ begun was
  pub fits : TreeFits change known tree was

abbrev pub UseAgrees : Called → Known → Use → Use → Type 0
UseAgrees change known use_of other = alike.UseAgrees (TreeFits change known) use_of other

abbrev pub TasksAgree : Called → Known → List Task → List Task → Type 0
TasksAgree change known tasks others = alike.TasksAgree change (TreeFits change known) (RunFits change known) tasks others

abbrev pub TurnedAgrees : Called → Known → Turned → Turned → Type 0
TurnedAgrees change known turned other = alike.TurnedAgrees change (TreeFits change known) (RunFits change known) turned other

-- that of the first task may be under evaluation
abbrev pub RunsNow : Called → Known → Objects → Objects → World → Run → Run → Type 0
RunsNow change known statics objects world run other =
    RunFits change known run other
    ⊎ (RunAgrees change (frame_stage change known statics objects) (outside known.safe) world [] run other × (left_in run ≤ limit change))

abbrev pub TopAgrees : Called → Known → Objects → Objects → World → List Task → List Task → Type 0
TopAgrees change known statics objects world [] [] = Unit {0}
TopAgrees change known statics objects world (task ∷ tasks) (other ∷ others) =
    alike.TaskAgrees change (TreeFits change known) (RunsNow change known statics objects world) task other × TasksAgree change known tasks others
TopAgrees change known statics objects world tasks others = ⊥

-- ---- parameters

-- an untouched argument comes to the parameter's value, and reads nothing that trees with these effects write
abbrev pub IsHeld : Stage → World → List Effect → Value → Stood → Type 0
IsHeld stage world effects value a_value = Unit {0}
IsHeld stage world effects value (a_tree tree) =
    IsPure (begun tree) × ReadsApart stage effects (begun tree)
    × ((found : Computed) × (computed stage.scene world (begun tree) ≡ Some found) × (found.result ≡ of_value value))

abbrev pub stored_entry : Entry → Stored
stored_entry entry = record { parameter = entry.parameter; stored = entry.stored; value = entry.value }

-- the parameters, with their objects among these
pub record AreEntered (stage : Stage) (world : World) (effects : List Effect) (entries : List Entry) (first : List Stored) : Type 0 where
  pub among : (entry : Entry) → IsAmong entry entries → IsAmong (stored_entry entry) first
  pub held : (entry : Entry) → IsAmong entry entries → IsHeld stage world effects entry.value entry.stood

-- in this world the objects haven't been made
abbrev pub AreMissing : World → List Stored → Type 0
AreMissing world first = (entry : Stored) → IsAmong entry first → look_up world.memory entry.stored ≡ None

-- ---- frames that wait

-- The function g has been called, in the world `start`. Behind the call the expressions agree, in whatever world the function leaves.
pub record CallerAgrees (change : Called) (known : Known) (statics : Objects) (start : World) (g : ℕ) (caller other : Caller) : Type 0 where
  pub function : caller.frame.function ≡ change.rename other.frame.function
  pub objects : caller.frame.objects ≡ renamed_objects change.rename other.frame.objects
  pub tasks : TasksAgree change known caller.frame.tasks other.frame.tasks
  pub kind : caller.kind ≡ other.kind
  pub hole : AgreesBehind change (frame_stage change known statics other.frame.objects) (outside known.safe) start [] (call_effects known.quiet (Some g)) caller.kind caller.hole other.hole
  pub few : hole_left caller.hole ≤ limit change
  pub use_of : UseAgrees change known caller.use_of other.use_of

-- The added function waits for g, and the caller of the added function waits for that: in the old program there is one caller, in whose expression
-- the added function's expression stands. What that may write at the call and behind it is among `own`, and `effects` is what it could write when the
-- added function was entered, in the world `origin`.
pub record NestedAgrees (change : Called) (known : Known) (statics : Objects) (start : World) (starts : List World) (g : ℕ) (first : List Stored) (added caller other : Caller) : Type 0 where
  pub objects : added.frame.objects ≡ objects_in first
  pub tasks : added.frame.tasks ≡ []
  pub use_of : added.use_of ≡ returns
  pub kind : added.kind ≡ other.kind
  pub outer : Hole
  pub inner : Hole
  pub hole : other.hole ≡ hole_in outer inner
  pub opened : IsOpen outer
  pub entries : List Entry
  pub agrees : AgreesBehind change (frame_stage change known statics other.frame.objects) (inside entries) start [] (call_effects known.quiet (Some g)) added.kind added.hole inner
  pub few : hole_left added.hole ≤ size change
  pub held : AreHeld change first
  pub origin : World
  pub missing : AreMissing origin first
  pub below : (start : World) → IsAmong start starts → AreMissing start first
  pub effects : List Effect
  pub since : ChangesOnly (frame_stage change known statics other.frame.objects) effects origin start
  pub own : List Effect
  pub less : IsNoMore (frame_stage change known statics other.frame.objects) effects own
  pub entered : AreEntered (frame_stage change known statics other.frame.objects) start own entries first
  pub within : IsNoMore (frame_stage change known statics other.frame.objects) own (call_effects known.quiet (Some g))
  pub behind : (value : Value) (locks : List At) → IsNoMore (frame_stage change known statics other.frame.objects) (call_effects known.quiet (Some g)) (lock_effects locks)
      → IsNoMore (frame_stage change known statics other.frame.objects) own (effects_of (frame_stage change known statics other.frame.objects) (filled_in inner (done other.kind (of_value value) locks)))
  pub beyond : AgreesBehind change (frame_stage change known statics other.frame.objects) (outside known.safe) origin [] effects caller.kind caller.hole outer
  pub few_beyond : hole_left caller.hole ≤ limit change
  pub yields : HoleYields caller.kind added.kind added.hole
  pub caller_function : caller.frame.function ≡ change.rename other.frame.function
  pub caller_objects : caller.frame.objects ≡ renamed_objects change.rename other.frame.objects
  pub caller_tasks : TasksAgree change known caller.frame.tasks other.frame.tasks
  pub caller_use : UseAgrees change known caller.use_of other.use_of

-- with the worlds in which the functions above were called
abbrev pub CallersAgree : Called → Known → Objects → Spare → List World → ℕ → List Caller → List Caller → Type 0
CallersAgree change known statics spare starts g [] [] = Unit {0}
CallersAgree change known statics spare (start ∷ starts) g (caller ∷ []) (other ∷ others) =
    CallerAgrees change known statics start g caller other × CallersAgree change known statics spare starts other.frame.function [] others
CallersAgree change known statics spare (start ∷ starts) g (caller ∷ second ∷ callers) (other ∷ others) =
    (CallerAgrees change known statics start g caller other × CallersAgree change known statics spare starts other.frame.function (second ∷ callers) others)
    ⊎ ((first : List Stored) × (rest : Spare) × (spare ≡ first ∷ rest) × NestedAgrees change known statics start starts g first caller second other
    × CallersAgree change known statics rest starts other.frame.function callers others)
CallersAgree change known statics spare starts g callers others = ⊥

-- ---- both programs are in functions that agree

pub record StateAgrees (change : Called) (known : Known) (spare : Spare) (starts : List World) (state other : State) : Type 0 where
  pub standing : state.standing ≡ other.standing
  pub function : state.frame.function ≡ change.rename other.frame.function
  pub objects : state.frame.objects ≡ renamed_objects change.rename other.frame.objects
  pub tasks : TopAgrees change known other.statics other.frame.objects other.world (unfolded state.frame.tasks) (unfolded other.frame.tasks)
  pub callers : CallersAgree change known other.statics spare starts other.frame.function state.callers other.callers
  pub statics : state.statics ≡ renamed_objects change.rename other.statics
  pub world : state.world ≡ other.world

-- ---- the new program is in the added function

-- its body begins
pub record Beginning (change : Called) (stage : Stage) (world : World) (v : ℕ) (entries : List Entry) (tasks : List Task) (kind : CType) (run : Run) : Type 0 where
  pub return_kind : CType
  pub return_spans : Spans
  pub is : tasks ≡ begins (node return return_kind return_spans (more_trees change.body no_trees)) ∷ []
  pub agrees : RunAgrees change stage (inside entries) world [] (begun change.body) run ⊎ IsReading change (inside entries) (begun change.body) run
  pub typed : kind ≡ kind_of change.body
  pub left : size change + 4 ≤ v

-- its expression is under evaluation
pub record Evaluating (change : Called) (stage : Stage) (world : World) (v : ℕ) (entries : List Entry) (tasks : List Task) (kind : CType) (run : Run) : Type 0 where
  pub place : Place
  pub now : Run
  pub is : tasks ≡ evaluates place now returns ∷ []
  pub agrees : RunAgrees change stage (inside entries) world [] now run ⊎ IsReading change (inside entries) now run
  pub few : left_in now ≤ size change
  pub left : left_in now + 2 ≤ v
  pub yields : Yields kind now

-- it returns the value
pub record Returning (v : ℕ) (tasks : List Task) (kind : CType) (run : Run) : Type 0 where
  pub value : Value
  pub locks : List At
  pub is : tasks ≡ hands_back value ∷ []
  pub result : run ≡ done kind (of_value value) locks
  pub given_value : lacks_value kind value ≡ false
  pub left : 1 ≤ v

-- how far it is, and how many steps the new program may take in it before the old one has to move
abbrev pub Phase : Called → Stage → World → ℕ → List Entry → List Task → CType → Run → Type 0
Phase change stage world v entries tasks kind run =
    Beginning change stage world v entries tasks kind run ⊎ (Evaluating change stage world v entries tasks kind run ⊎ Returning v tasks kind run)

-- the caller of the added function waits, and the old program is in this full expression
pub record WaitsIn (change : Called) (known : Known) (spare : Spare) (starts : List World) (caller : Caller) (behind : List Caller) (other : State) (whole : Run) : Type 0 where
  pub place : Place
  pub use_of : Use
  pub rest : List Task
  pub evaluating : unfolded other.frame.tasks ≡ evaluates place whole use_of ∷ rest
  pub function : caller.frame.function ≡ change.rename other.frame.function
  pub objects : caller.frame.objects ≡ renamed_objects change.rename other.frame.objects
  pub tasks : TasksAgree change known caller.frame.tasks rest
  pub few : hole_left caller.hole ≤ limit change
  pub uses : UseAgrees change known caller.use_of use_of
  pub callers : CallersAgree change known other.statics spare starts other.frame.function behind other.callers

-- The old program has `run` in place of the call. The function was entered in the world `origin`, and what could be written then is among `effects`.
pub record InsideAgrees (change : Called) (known : Known) (w : ℕ) (first : List Stored) (spare : Spare) (starts : List World) (state other : State) : Type 0 where
  pub standing : state.standing ≡ other.standing
  pub objects : state.frame.objects ≡ objects_in first
  pub caller : Caller
  pub others : List Caller
  pub callers : state.callers ≡ caller ∷ others
  pub run : Run
  pub hole : Hole
  pub opened : IsOpen hole
  pub waits : WaitsIn change known spare starts caller others other (filled_in hole run)
  pub origin : World
  pub missing : AreMissing origin first
  pub below : (start : World) → IsAmong start starts → AreMissing start first
  pub effects : List Effect
  pub since : ChangesOnly (frame_stage change known other.statics other.frame.objects) effects origin other.world
  pub less : IsNoMore (frame_stage change known other.statics other.frame.objects) effects (effects_of (frame_stage change known other.statics other.frame.objects) run)
  pub holes : AgreesBehind change (frame_stage change known other.statics other.frame.objects) (outside known.safe) origin [] effects caller.kind caller.hole hole
  pub entries : List Entry
  pub entered : AreEntered (frame_stage change known other.statics other.frame.objects) other.world (effects_of (frame_stage change known other.statics other.frame.objects) run) entries first
  pub left : ℕ
  pub phase : Phase change (frame_stage change known other.statics other.frame.objects) other.world left entries state.frame.tasks caller.kind run
  pub enough : share change (hole_left caller.hole) + left ≤ w
  pub held : AreHeld change first
  pub statics : state.statics ≡ renamed_objects change.rename other.statics
  pub world : state.world ≡ other.world

-- The call is part of an untouched argument. What it comes to is known: `run`, which the old program has nowhere, is followed in its place. With
-- the value in place of the call the full expressions agree.
pub record AsideAgrees (change : Called) (known : Known) (w : ℕ) (first : List Stored) (spare : Spare) (starts : List World) (state other : State) : Type 0 where
  pub standing : state.standing ≡ other.standing
  pub objects : state.frame.objects ≡ objects_in first
  pub caller : Caller
  pub others : List Caller
  pub callers : state.callers ≡ caller ∷ others
  pub whole : Run
  pub waits : WaitsIn change known spare starts caller others other whole
  pub run : Run
  pub pure : IsPure run
  pub closed : (n : ℕ) → IsAmong n (closed_numbers known.closed other.frame.objects) → IsClosedIn n (other.statics ++ other.frame.objects) run
  pub value : Value
  pub comes : (found : Computed) × (computed (frame_stage change known other.statics other.frame.objects).scene other.world run ≡ Some found) × (found.result ≡ of_value value)
  pub origin : World
  pub missing : AreMissing origin first
  pub below : (start : World) → IsAmong start starts → AreMissing start first
  pub since : ChangesOnly (frame_stage change known other.statics other.frame.objects) [] origin other.world
  pub resumes : (later : World) → ChangesOnly (frame_stage change known other.statics other.frame.objects) [] origin later
      → RunAgrees change (frame_stage change known other.statics other.frame.objects) (outside known.safe) later [] (filled_in caller.hole (done caller.kind (of_value value) [])) whole
  pub entries : List Entry
  pub entered : AreEntered (frame_stage change known other.statics other.frame.objects) other.world [] entries first
  pub left : ℕ
  pub phase : Phase change (frame_stage change known other.statics other.frame.objects) other.world left entries state.frame.tasks caller.kind run
  pub enough : share change (hole_left caller.hole) + left ≤ w
  pub held : AreHeld change first
  pub statics : state.statics ≡ renamed_objects change.rename other.statics
  pub world : state.world ≡ other.world

-- ---- states

abbrev pub Related : Called → Known → ℕ → Spare → List World → State → State → Type 0
Related change known w spare starts state other =
    ((share change (tasks_left (unfolded state.frame.tasks)) ≤ w) × StateAgrees change known spare starts state other)
    ⊎ ((first : List Stored) × (rest : Spare) × (spare ≡ first ∷ rest)
    × (InsideAgrees change known w first rest starts state other ⊎ AsideAgrees change known w first rest starts state other))

-- ---- what meets a step

-- the worlds in which functions were called, where one more has been, or one has returned
abbrev pub worlds_after : List World → World → List Caller → List Caller → List World
worlds_after starts world [] [] = starts
worlds_after starts world [] (caller ∷ callers) = world ∷ starts
worlds_after starts world (caller ∷ callers) [] = drop 1 starts
worlds_after starts world (caller ∷ callers) (other ∷ others) = worlds_after starts world callers others

-- a step of the old program
pub record IsFollowed (change : Called) (known : Known) (spare : Spare) (starts : List World) (other state : State) : Type 0 where
  pub last : State
  pub step : Step change.old other last
  pub related : Related change known (most change) spare (worlds_after starts other.world other.callers last.callers) state last

-- steps that neither call a function nor return from one
abbrev pub GoesWithin : Program → ℕ → State → State → Type 0
GoesWithin program zero state last = state ≡ last
GoesWithin program (suc n) state last = (middle : State) × Step program state middle × (middle.callers ≡ state.callers) × GoesWithin program n middle last

-- some steps of an untouched argument
pub record IsEvaluated (change : Called) (known : Known) (spare : Spare) (starts : List World) (other state : State) : Type 0 where
  pub count : ℕ
  pub last : State
  pub goes : GoesWithin change.old (suc count) other last
  pub related : Related change known (most change) spare starts state last

-- the objects of the parameters are made, or die
pub record Enters (change : Called) (known : Known) (w : ℕ) (spare : Spare) (starts : List World) (other state : State) : Type 0 where
  pub entries : List Stored
  pub fresh : AreFresh entries other.world.memory
  pub left : ℕ
  pub less : left + 1 ≤ w
  pub related : Related change known left (entries ∷ spare) starts state (with_memory other (with_entries change entries other.world.memory))

pub record Leaves (change : Called) (known : Known) (w : ℕ) (spare : Spare) (starts : List World) (other state : State) : Type 0 where
  pub first : List Stored
  pub rest : Spare
  pub is : spare ≡ first ∷ rest
  pub below : (start : World) → IsAmong start starts → AreMissing start first
  pub left : ℕ
  pub less : left + 1 ≤ w
  pub related : Related change known left rest starts state (with_memory other (killed (map (λ entry. entry.1) (objects_in first)) other.world.memory))

-- the old program goes wrong, or goes on to a state that is related, or stays where it is
abbrev pub Met : Called → Known → ℕ → Spare → List World → State → State → Type 0
Met change known w spare starts other state =
    GoesWrong (machine_of change.old) other
    ⊎ (IsFollowed change known spare starts other state
    ⊎ (IsEvaluated change known spare starts other state
    ⊎ (((v : ℕ) × (v + 1 ≤ w) × Related change known v spare starts state other)
    ⊎ (Enters change known w spare starts other state ⊎ Leaves change known w spare starts other state))))

-- ---- what the old program has to keep

-- The function above the first caller has changed only what it may, since it was called, its objects were made later, and it hands back no pointer
-- to a closed object of the caller.
pub record HasWaited (change : Called) (known : Known) (start : World) (other : State) (caller : Caller) : Type 0 where
  pub since : ChangesOnly (frame_stage change known other.statics caller.frame.objects) (call_effects known.quiet (Some other.frame.function)) start other.world
  pub own : (n : ℕ) → IsAmong n (numbers_of other.frame.objects) → look_up start.memory n ≡ None
  pub avoids : (value : Value) (rest : List Task) → unfolded other.frame.tasks ≡ hands_back value ∷ rest → AvoidsClosed (frame_stage change known other.statics caller.frame.objects) value

abbrev pub FirstHasWaited : Called → Known → List World → State → List Caller → Type 0
FirstHasWaited change known (start ∷ starts) other (caller ∷ callers) = HasWaited change known start other caller
FirstHasWaited change known starts other callers = Unit {0}

pub record IsSteady (change : Called) (known : Known) (starts : List World) (other : State) : Type 0 where
  pub names : NamesKnown change.old other
  pub named : AreNamedOnce known other.statics other.frame.objects
  pub made : (start : World) → IsAmong start starts → (n : ℕ) → IsMade start.memory n → IsMade other.world.memory n
  -- no pointer leads to a closed object, and full expressions only name them
  pub avoids : (n : ℕ) → IsAmong n (closed_numbers known.closed other.frame.objects) → MemoryAvoids n other.world.memory
  pub closed : (place : Place) (run : Run) (use_of : Use) (rest : List Task) → unfolded other.frame.tasks ≡ evaluates place run use_of ∷ rest
      → (n : ℕ) → IsAmong n (closed_numbers known.closed other.frame.objects) → IsClosedIn n (other.statics ++ other.frame.objects) run
  -- full expressions are no statements, and what always comes to something does so
  pub whole : (place : Place) (tree : Tree) (use_of : Use) (rest : List Task) → unfolded other.frame.tasks ≡ evaluates place (begun tree) use_of ∷ rest → is_statement (label_of tree) ≡ false
  pub safe : (place : Place) (run : Run) (use_of : Use) (rest : List Task) → unfolded other.frame.tasks ≡ evaluates place run use_of ∷ rest
      → AreSafe (frame_stage change known other.statics other.frame.objects) (outside known.safe) other.world (locks_in run) [] run
  pub waited : FirstHasWaited change known starts other other.callers
