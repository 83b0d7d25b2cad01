-- How a call for a generated project ends.
--     EndsGenerating n before after faults later end      the plan of the project with n macros is summed up, or there is none
use Rattle.std.specs.Prelude.{◌≡◌, ◌≢◌, ℕ, List, Option, Some, Result, Ok, Err}
use Rattle.dm_token.specs.declared.stop.Memory.{Memory}
use Rattle.dm_token.specs.declared.stop.Stop.{Stop}
use Rattle.dm_token.specs.declared.stop.Stop.TheVariants.{ReadFault}
use Rattle.dm_io.specs.Output.{appended, MayHaveAppended}
use Rattle.dm_io.specs.Faults.{Rose}
use Rattle.dm_search.specs.Loaded.{Loaded}
use Rattle.dm_edit.specs.declared.plan.Plan.{Plan}
use Rattle.dm_gen.specs.Generated.{unit_name}
use Rattle.dm_lines.specs.Puts.{PutsText}
use Rattle.dm_lines.specs.Statuses as statuses
use Rattle.dm_lines.specs.Stops.{status_of_stop}
use Rattle.dm_apply.specs.Plans.{Plans, StopsPlanning, line_of_no_plan}
use Rattle.dm_apply.specs.Summaries.{files_of, units, summary}

-- The plan is summed up, or the summary can't be put, or there is no plan, or memory is wanted.
pub data GenEnding : Type 0 where
  summed_up : Plan → GenEnding
  output_failed : Plan → GenEnding
  stopped : Stop → Loaded → GenEnding
  memory_wanted : GenEnding

-- the exit status of each
abbrev pub status_of_gen : GenEnding → ℕ
status_of_gen (summed_up plan) = statuses.done
status_of_gen (output_failed plan) = statuses.output_fault
status_of_gen (stopped stop files) = status_of_stop stop
status_of_gen memory_wanted = statuses.memory_wanted

-- A stop that is no fault of the folder, in which no call fails.
abbrev pub IsOfSource : Stop → Type 0
IsOfSource stop = (file : ℕ) → stop ≢ ReadFault file

-- what each ending means between two moments of a sink
abbrev pub EndsGenerating : ℕ → Option (List ℕ) → Option (List ℕ) → ℕ → ℕ → GenEnding → Type 0
EndsGenerating n before after faults later (summed_up plan) = Plans (Some (files_of n)) units plan × (after ≡ appended before (summary n plan))
EndsGenerating n before after faults later (output_failed plan) =
    Plans (Some (files_of n)) units plan × Rose faults later × MayHaveAppended before after (summary n plan)
EndsGenerating n before after faults later (stopped stop files) =
    StopsPlanning (Some (files_of n)) units stop files × IsOfSource stop × PutsText before after faults later (line_of_no_plan unit_name files.names stop)
EndsGenerating n before after faults later memory_wanted = after ≡ before

-- a call ends: with a status, or for want of memory
abbrev pub EndsGeneratingAs : ℕ → Option (List ℕ) → Option (List ℕ) → ℕ → ℕ → Result ℕ Memory → Type 0
EndsGeneratingAs n before after faults later (Ok status) = (end : GenEnding) × (status ≡ status_of_gen end) × EndsGenerating n before after faults later end
EndsGeneratingAs n before after faults later (Err error) = EndsGenerating n before after faults later memory_wanted
