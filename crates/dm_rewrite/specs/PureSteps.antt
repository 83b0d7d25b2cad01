-- What steps of trees that neither store nor call do.
--     DidPlain world did      the step of a node leaves the world as it was, and locks nothing
--     StepKeeps scene world locks kind was move      a step of a tree keeps its result, or meets a lock
--     Evaluated program place hole use_of rest state run      a part of the full expression is evaluated while all else stands still
use Rattle.std.specs.Prelude.{◌≡◌, ◌⊎◌, ℕ, true, false, List, [], ◌∷◌, Option, Some, None}
use Rattle.dm_token.specs.declared.place.Place.{Place}
use Rattle.dm_type.specs.CTypes.{CType}
use Rattle.dm_meaning.specs.Among.{IsAmong}
use Rattle.dm_meaning.specs.Machines.{going, Goes}
use Rattle.dm_meaning.specs.Values.{At, overlaps_any}
use Rattle.dm_meaning.specs.Programs.{Program}
use Rattle.dm_meaning.specs.Operations.{World, Scene, Did, gives, breaks, ends_with}
use Rattle.dm_meaning.specs.Running.{Run, done, Hole, filled_in, locks_in, IsOpen}
use Rattle.dm_meaning.specs.Expressions.{Move, goes, calls, fails, exits, kind_of_run}
use Rattle.dm_meaning.specs.States.{Use, Task, evaluates, State}
use Rattle.dm_meaning.specs.Statements.{unfolded}
use Rattle.dm_meaning.specs.Steps.{scene_of}
use Rattle.dm_meaning.specs.Units.{machine_of}
use Rattle.dm_rewrite.specs.Computed.{Computed, computed, IsPure}

abbrev pub DidPlain : World → Did → Type 0
DidPlain world (gives after result new) = (after ≡ world) × (new ≡ [])
DidPlain world (breaks cause) = Unit {0}
DidPlain world (ends_with status) = ⊥

-- ---- one step

-- The same result, and no more places to read. What was read in the step met none of the locks.
pub record IsKept (locks : List At) (was now : Computed) : Type 0 where
  pub result : now.result ≡ was.result
  pub fewer : (at : At) → IsAmong at now.reads → IsAmong at was.reads
  pub met : (at : At) → IsAmong at was.reads → IsAmong at now.reads ⊎ (overlaps_any at locks ≡ false)

-- what comes to nothing still does
abbrev pub Keeps : List At → Option Computed → Option Computed → Type 0
Keeps locks None now = now ≡ None
Keeps locks (Some was) None = ⊥
Keeps locks (Some was) (Some now) = IsKept locks was now

-- the tree comes to nothing, or reads a place that is locked
abbrev pub Meets : List At → Option Computed → Type 0
Meets locks None = Unit {0}
Meets locks (Some found) = (at : At) × IsAmong at found.reads × (overlaps_any at locks ≡ true)

-- A step of a tree of this type, which comes to `was`, beside these locks.
abbrev pub StepKeeps : Scene → World → List At → CType → Option Computed → Move Run Hole → Type 0
StepKeeps scene world locks kind was (goes after run) =
    (after ≡ world) × IsPure run × (kind_of_run run ≡ kind) × Keeps locks was (computed scene world run)
StepKeeps scene world locks kind was (calls f arguments called_kind hole) = ⊥
StepKeeps scene world locks kind was (fails cause place) = Meets locks was
StepKeeps scene world locks kind was (exits status) = ⊥

-- ---- all steps at once

-- The program is at a full expression, of which this tree is a part that may be evaluated.
pub record IsAt (place : Place) (hole : Hole) (use_of : Use) (rest : List Task) (state : State) (run : Run) : Type 0 where
  pub stands : state.standing ≡ going
  pub opened : IsOpen hole
  pub evaluating : unfolded state.frame.tasks ≡ evaluates place (filled_in hole run) use_of ∷ rest

-- the state is another one but for what is left to do in its frame: to evaluate the full expression with this tree in it
pub record StandsStill (place : Place) (hole : Hole) (use_of : Use) (rest : List Task) (state : State) (last : Run) (later : State) : Type 0 where
  pub tasks : List Task
  pub is : later ≡ record state { frame = record state.frame { tasks = tasks } }
  pub evaluating : unfolded tasks ≡ evaluates place (filled_in hole last) use_of ∷ rest

-- Steps of the program lead to a state that stands still but for the tree, in whose place its result is. The tree reads nothing that the rest
-- of the full expression has locked.
pub record Evaluated (program : Program) (place : Place) (hole : Hole) (use_of : Use) (rest : List Task) (state : State) (run : Run) : Type 0 where
  pub found : Computed
  pub is : computed (scene_of program state) state.world run ≡ Some found
  pub free : (at : At) → IsAmong at found.reads → overlaps_any at (locks_in (filled_in hole run)) ≡ false
  pub count : ℕ
  pub later : State
  pub leads : Goes (machine_of program) count state later
  pub still : StandsStill place hole use_of rest state (done (kind_of_run run) found.result []) later
