-- What shows of a run.
--     Seen      what shows of a state of the machine
--     shown table state      what shows of a state of the code, if memory wasn't wanted
--     running_in one      all that goes on, the full expression under evaluation with it
--     HasLeft table turn one next      what a step left stands for this state, where the run goes on
--     StateFits table state      it is one of a program with these types
use Rattle.std.specs.Prelude.{◌≡◌, ℕ, Bool, true, false, List, Option, Some, None, option_map, IfSome}
use Rattle.dm_token.specs.declared.place.Place.{Place}
use Rattle.dm_type.specs.Tables.{Table}
use Rattle.dm_meaning.specs.declared.cause.Cause.{Cause}
use Rattle.dm_meaning.specs.Machines.{Standing, going, exited, undefined}
use Rattle.dm_meaning.specs.States as states
use Rattle.dm_state.specs.declared.full.Full.{Full}
use Rattle.dm_state.specs.declared.full.Full.TheVariants.{Goes}
use Rattle.dm_state.specs.declared.full.Ongoing.{Ongoing}
use Rattle.dm_state.specs.declared.running.Running.{Running}
use Rattle.dm_state.specs.declared.turn.Turn.{Turn}
use Rattle.dm_state.specs.declared.turn.Turn.TheVariants as variant
use Rattle.dm_state.specs.Fits.{RunningFits}
use Rattle.dm_state.specs.Turns.{IsLeft}
use Rattle.dm_state.specs.Views.{view_of_running}
use Rattle.dm_exec.specs.declared.state.Going.{Going}
use Rattle.dm_exec.specs.declared.state.State.{State}

-- All of the state where the run goes on; of one that has ended how it has, and what it has written.
pub data Seen : Type 0 where
  goes_on : states.State → Seen
  has_exited : ℕ → List ℕ → Seen
  is_undefined : Cause → Place → List ℕ → Seen

abbrev pub seen_by : Standing → states.State → Seen
seen_by going state = goes_on state
seen_by (exited status) state = has_exited status state.world.output
seen_by (undefined cause place) state = is_undefined cause place state.world.output

abbrev pub seen : states.State → Seen
seen state = seen_by state.standing state

-- how the state stands
abbrev pub standing_of : Seen → Standing
standing_of (goes_on state) = going
standing_of (has_exited status output) = exited status
standing_of (is_undefined cause place output) = undefined cause place

-- ---- states of the code

-- behind a step that did this
abbrev pub seen_at : Table → Turn → Running → Seen
seen_at table variant.Went running = goes_on (view_of_running table running)
seen_at table (variant.Exited status) running = has_exited status running.streams.output
seen_at table (variant.Undefined cause place) running = is_undefined cause place running.streams.output

-- the full expression that stands beside the rest, where it goes on
abbrev pub full_in : Bool → Ongoing → Option Full → Option Full
full_in true ongoing full = Some (Goes ongoing)
full_in false ongoing full = full

abbrev pub running_in : Going → Running
running_in one = record one.running { full = full_in one.goes one.ongoing one.running.full }

-- nothing after a want of memory
abbrev pub shown : Table → State → Option Seen
shown table state = option_map (λ turn. seen_at table turn (running_in state.going)) state.turn

-- beside a full expression that goes on there is no other one
abbrev pub IsApart : Going → Type 0
IsApart one = one.goes ≡ true → one.running.full ≡ None

abbrev pub HasLeft : Table → Turn → Going → states.State → Type 0
HasLeft table turn one next = IsLeft table turn (running_in one) next × IsApart one

abbrev pub TurnFits : Table → Running → Turn → Type 0
TurnFits table running variant.Went = RunningFits table running
TurnFits table running (variant.Exited status) = Unit {0}
TurnFits table running (variant.Undefined cause place) = Unit {0}

abbrev pub StateFits : Table → State → Type 0
StateFits table state = IfSome state.turn (λ turn. TurnFits table (running_in state.going) turn × IsApart state.going)
