-- How a call for a plan ends, and one that applies it.
--     EndsPlanning json project units before after end      a plan is reported, or there is none
--     EndsApplying json project units before after end      the files of a plan are written, and it is reported, or there is none
use Rattle.std.specs.Prelude.{◌≡◌, ℕ, Bool, List, ◌∷◌, ◌++◌, Result, Ok, Err}
use Rattle.dm_token.specs.declared.stop.Memory.{Memory}
use Rattle.dm_token.specs.declared.stop.Stop.{Stop}
use Rattle.dm_token.specs.declared.unit.Unit.{Unit as Source}
use Rattle.dm_io.specs.Files.{MayHaveSpoiled}
use Rattle.dm_io.specs.Output.{appended, MayHaveAppended}
use Rattle.dm_io.specs.Faults.{Rose}
use Rattle.dm_search.specs.Loaded.{Loaded}
use Rattle.dm_edit.specs.declared.plan.Changed.{Changed}
use Rattle.dm_edit.specs.declared.plan.Plan.{Plan}
use Rattle.dm_lines.specs.Lines.{write_fault_line}
use Rattle.dm_lines.specs.Outside.{Outside, KeepsFiles, Puts}
use Rattle.dm_lines.specs.Statuses as statuses
use Rattle.dm_lines.specs.Stops.{status_of_stop}
use Rattle.dm_last.specs.Last.{with_files}
use Rattle.dm_promise.specs.Promises.{KeepsToldPrograms}
use Rattle.dm_apply.specs.Plans.{Plans, StopsPlanning, HasCause, report, line_of_no_plan}

-- ---- the endings

-- The plan is reported, or its report can't be put, or the reading of the units stops, with the files by number then, or memory is wanted.
pub data PlanEnding : Type 0 where
  planned : Plan → PlanEnding
  report_failed : Plan → PlanEnding
  stopped : Stop → Loaded → PlanEnding
  memory_wanted : PlanEnding

-- The plan is applied, or the write of one of its files fails behind those of others, or it ends as a call for a plan does.
pub data ApplyEnding : Type 0 where
  applied : Plan → ApplyEnding
  write_failed : Plan → List Changed → Changed → List Changed → ApplyEnding
  output_failed : Plan → ApplyEnding
  unplanned : Stop → Loaded → ApplyEnding
  unready : ApplyEnding

-- the exit status of each
abbrev pub status_of_plan : PlanEnding → ℕ
status_of_plan (planned plan) = statuses.done
status_of_plan (report_failed plan) = statuses.output_fault
status_of_plan (stopped stop files) = status_of_stop stop
status_of_plan memory_wanted = statuses.memory_wanted

abbrev pub status_of_apply : ApplyEnding → ℕ
status_of_apply (applied plan) = statuses.done
status_of_apply (write_failed plan written file left) = statuses.write_fault
status_of_apply (output_failed plan) = statuses.output_fault
status_of_apply (unplanned stop files) = status_of_stop stop
status_of_apply unready = statuses.memory_wanted

-- ---- what they mean

-- nothing is changed, and nothing put
abbrev pub KeepsAll : Outside → Outside → Type 0
KeepsAll before after = KeepsFiles before after × (after.written ≡ before.written)

-- There is no plan of the units, and it is put why. No file is changed.
abbrev pub ExplainsStop : List ℕ → List Source → Outside → Outside → Stop → Loaded → Type 0
ExplainsStop project units before after stop files =
    StopsPlanning before.files units stop files × HasCause stop before.folder_faults after.folder_faults × KeepsFiles before after
    × Puts before after (line_of_no_plan project files.names stop)

-- what each ending of a call for a plan means
abbrev pub EndsPlanning : Bool → List ℕ → List Source → Outside → Outside → PlanEnding → Type 0
EndsPlanning json project units before after (planned plan) =
    Plans before.files units plan × KeepsFiles before after × (after.written ≡ appended before.written (report json plan))
EndsPlanning json project units before after (report_failed plan) =
    Plans before.files units plan × KeepsFiles before after × Rose before.sink_faults after.sink_faults
    × MayHaveAppended before.written after.written (report json plan)
EndsPlanning json project units before after (stopped stop files) = ExplainsStop project units before after stop files
EndsPlanning json project units before after memory_wanted = KeepsAll before after

-- What each ending of a call that applies a plan means. The files that change are written in the order of the plan, each once, before
-- the report is put. One whose write failed has any bytes or is absent; those before it have their new bytes, and all others stay. Where
-- all are written, the programs of the units refine those that they had.
abbrev pub EndsApplying : Bool → List ℕ → List Source → Outside → Outside → ApplyEnding → Type 0
EndsApplying json project units before after (applied plan) =
    Plans before.files units plan × (after.files ≡ with_files before.files plan.files)
    × (after.written ≡ appended before.written (report json plan)) × KeepsToldPrograms before.files after.files units plan
EndsApplying json project units before after (write_failed plan written file left) =
    Plans before.files units plan × (plan.files ≡ written ++ file ∷ left) × Rose before.folder_faults after.folder_faults
    × MayHaveSpoiled (with_files before.files written) after.files file.name × Puts before after (write_fault_line file.name)
EndsApplying json project units before after (output_failed plan) =
    Plans before.files units plan × (after.files ≡ with_files before.files plan.files) × Rose before.sink_faults after.sink_faults
    × MayHaveAppended before.written after.written (report json plan) × KeepsToldPrograms before.files after.files units plan
EndsApplying json project units before after (unplanned stop files) = ExplainsStop project units before after stop files
EndsApplying json project units before after unready = KeepsAll before after

-- ---- calls

-- a call ends: with a status, or for want of memory
abbrev pub EndsPlanningAs : Bool → List ℕ → List Source → Outside → Outside → Result ℕ Memory → Type 0
EndsPlanningAs json project units before after (Ok status) =
    (end : PlanEnding) × (status ≡ status_of_plan end) × EndsPlanning json project units before after end
EndsPlanningAs json project units before after (Err error) = EndsPlanning json project units before after memory_wanted

abbrev pub EndsApplyingAs : Bool → List ℕ → List Source → Outside → Outside → Result ℕ Memory → Type 0
EndsApplyingAs json project units before after (Ok status) =
    (end : ApplyEnding) × (status ≡ status_of_apply end) × EndsApplying json project units before after end
EndsApplyingAs json project units before after (Err error) = EndsApplying json project units before after unready
