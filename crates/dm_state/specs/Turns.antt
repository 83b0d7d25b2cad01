-- What a step did, and what it left.
--     turn_of standing      what the step did that led to a state which stands so
--     state_with table tasks running      the state in which these things are left to do
--     IsAfter table running next      what is left stands for this state
--     IsLeft table turn running next      so it does, where the run goes on
use Rattle.std.specs.Prelude.{◌≡◌, List}
use Rattle.dm_type.specs.Tables.{Table}
use Rattle.dm_meaning.specs.Machines.{Standing, going, exited, undefined}
use Rattle.dm_meaning.specs.States.{State, Task}
use Rattle.dm_state.specs.declared.turn.Turn.{Turn}
use Rattle.dm_state.specs.declared.turn.Turn.TheVariants as turn
use Rattle.dm_state.specs.declared.running.Running.{Running}
use Rattle.dm_state.specs.Fits.{RunningFits}
use Rattle.dm_state.specs.Views.{view_of_running}

abbrev pub turn_of : Standing → Turn
turn_of going = turn.Went
turn_of (exited status) = turn.Exited status
turn_of (undefined cause place) = turn.Undefined cause place

abbrev pub state_with : Table → List Task → Running → State
state_with table tasks running = record (view_of_running table running) { frame = record { function = running.frame.function; objects = running.frame.objects; tasks = tasks } }

-- what is left stands for this state, and fits
pub record IsAfter (table : Table) (running : Running) (next : State) : Type 0 where
  pub same : view_of_running table running ≡ next
  pub fits : RunningFits table running

-- Where the run goes on, what is left stands for the state to which the step led; where it has ended, what it has written is the same.
abbrev pub IsLeft : Table → Turn → Running → State → Type 0
IsLeft table turn.Went running next = IsAfter table running next
IsLeft table (turn.Exited status) running next = (next.standing ≡ exited status) × (next.world.output ≡ running.streams.output)
IsLeft table (turn.Undefined cause place) running next = (next.standing ≡ undefined cause place) × (next.world.output ≡ running.streams.output)
