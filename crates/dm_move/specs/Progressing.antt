-- What the step of a full expression left.
--     IsProgress table progress running ongoing next      it stands for this state
use Rattle.std.specs.Prelude.{◌≡◌, Some, None}
use Rattle.dm_type.specs.Tables.{Table}
use Rattle.dm_meaning.specs.States.{State}
use Rattle.dm_state.specs.declared.full.Full.TheVariants.{Goes}
use Rattle.dm_state.specs.declared.full.Ongoing.{Ongoing}
use Rattle.dm_state.specs.declared.running.Running.{Running}
use Rattle.dm_state.specs.Turns.{IsAfter, IsLeft}
use Rattle.dm_move.specs.declared.going.Progress.{Progress}
use Rattle.dm_move.specs.declared.going.Progress.TheVariants.{GoesOn, Left}

-- where it goes on, it stands beside what is left
abbrev pub with_full : Running → Ongoing → Running
with_full running ongoing = record running { full = Some (Goes ongoing) }

abbrev pub IsProgress : Table → Progress → Running → Ongoing → State → Type 0
IsProgress table GoesOn running ongoing next = (running.full ≡ None) × IsAfter table (with_full running ongoing) next
IsProgress table (Left turn) running ongoing next = IsLeft table turn running next
