-- What calls that run a program are to answer.
--     IsStart program input state      a state at the beginning of a run
--     IsStep program choice before result after      one step of the machine
--     IsRun program order n input outcome      a run of so many steps in an order, which is one of the machine's
use Rattle.std.specs.Prelude.{◌≡◌, ℕ, List, Option, Some, None, Result, Ok, Err, IsErr}
use Rattle.dm_token.specs.declared.stop.Memory.{Memory}
use Rattle.dm_meaning.specs.Choices.{run_by}
use Rattle.dm_meaning.specs.Machines.{Standing, going, exited, undefined, RunsWithin}
use Rattle.dm_meaning.specs.Programs.{Program, Definition}
use Rattle.dm_meaning.specs.States.{State}
use Rattle.dm_meaning.specs.Units.{machine_of, main_of, start}
use Rattle.dm_exec.specs.declared.outcome.Outcome.{Outcome}
use Rattle.dm_exec.specs.declared.outcome.Outcome.TheVariants as outcome
use Rattle.dm_state.specs.declared.turn.Turn.{Turn}
use Rattle.dm_state.specs.Turns.{turn_of}
use Rattle.dm_exec.specs.Orders.{choices}
use Rattle.dm_exec.specs.Runs.{next_state}
use Rattle.dm_exec.specs.Shown.{Seen, goes_on, has_exited, is_undefined, seen, standing_of}

-- The run begins with `main`, and objects are made in order.
unfoldable pub IsStart : Program → List ℕ → Option Seen → Type 0
IsStart program input shown = (main : Definition) × (main_of program ≡ Some main) × (shown ≡ Some (seen (start (λ i. i) program main input)))

-- Where the run goes on, a step leads to the machine's next state, or nothing is left where memory is wanted.
abbrev pub IsStepOf : Program → ℕ → State → Result Turn Memory → Option Seen → Type 0
IsStepOf program choice before (Ok turn) after = (after ≡ Some (seen (next_state program choice before))) × (turn ≡ turn_of (next_state program choice before).standing)
IsStepOf program choice before (Err memory) after = after ≡ None

-- A run that has ended stays so, and its end is answered again. Once memory was wanted each later step answers that.
abbrev pub IsStep : Program → ℕ → Option Seen → Result Turn Memory → Option Seen → Type 0
IsStep program choice (Some (goes_on state)) result after = IsStepOf program choice state result after
IsStep program choice (Some ended) result after = (result ≡ Ok (turn_of (standing_of ended))) × (after ≡ Some ended)
IsStep program choice None result after = IsErr result × (after ≡ None)

-- ---- whole runs

abbrev pub outcome_by : Standing → List ℕ → Outcome
outcome_by going output = outcome.Running output
outcome_by (exited status) output = outcome.Exited output status
outcome_by (undefined cause place) output = outcome.Undefined output cause place

-- what the run has come to that has come to this state
abbrev pub outcome_of : State → Outcome
outcome_of state = outcome_by state.standing state.world.output

abbrev pub outcome_seen : Seen → Outcome
outcome_seen (goes_on state) = outcome.Running state.world.output
outcome_seen (has_exited status output) = outcome.Exited output status
outcome_seen (is_undefined cause place output) = outcome.Undefined output cause place

-- The run of so many steps whose choices an order makes, which is one of the runs of the program's machine, has come to this.
pub record IsRun (program : Program) (order n : ℕ) (input : List ℕ) (outcome : Outcome) : Type 0 where
  pub state : State
  -- the choices lead there; there are as many as steps, so a run is still running only after all of them
  pub chosen : run_by program (choices order n) input ≡ Some state
  -- the machine may run on the input to there (5.1.2.3)
  pub run : RunsWithin (machine_of program) input n state
  pub comes_to : outcome_of state ≡ outcome
