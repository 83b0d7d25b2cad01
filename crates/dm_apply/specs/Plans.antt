-- The plan of units, what is reported of it, and what applying it needs.
use Rattle.std.specs.Prelude.{◌≡◌, ◌≢◌, ℕ, ◌==◌, Bool, false, List, map, Option, Some, Result, Ok, Err, if◌then◌else◌}
use Rattle.dm_token.specs.declared.stop.Stop.{Stop}
use Rattle.dm_token.specs.declared.stop.Stop.TheVariants.{Memory, Refused, Limit, ReadFault}
use Rattle.dm_token.specs.declared.unit.Unit.{Unit as Source}
use Rattle.dm_io.specs.Files.{Files}
use Rattle.dm_io.specs.Faults.{Rose}
use Rattle.dm_search.specs.Loaded.{Loaded, is_held}
use Rattle.dm_search.specs.Fresh.{fresh}
use Rattle.dm_edit.specs.declared.plan.Changed.{Changed}
use Rattle.dm_edit.specs.declared.plan.Plan.{Plan}
use Rattle.dm_lines.specs.Lines.{limit_line, write_fault_line}
use Rattle.dm_lines.specs.Stops.{line_of_stop}
use Rattle.dm_reading.specs.declared.reading.Reading.{Reading}
use Rattle.dm_readings.specs.Units.{ReadsProject, ending, no_file}
use Rattle.dm_planning.specs.Plans.{IsPlanned}
use Rattle.dm_report.specs.JsonReport.{json_of}
use Rattle.dm_report.specs.Lines.{report_of}
use Rattle.dm_apply.specs.declared.prepared.Prepared.{Prepared}

-- ---- the plan

-- what a call for the plan of units gives by a loader that knew no file before, which knows this afterwards
abbrev pub IsOnePlan : Option Files → List Source → Result Plan Stop → Loaded → Type 0
IsOnePlan told units result known = (count : ℕ) × IsPlanned told units fresh 0 result known count

-- this is the plan of the units
abbrev pub Plans : Option Files → List Source → Plan → Type 0
Plans told units plan = (known : Loaded) × IsOnePlan told units (Ok plan) known

-- Their reading stops, and these are the files by number then.
abbrev pub StopsPlanning : Option Files → List Source → Stop → Loaded → Type 0
StopsPlanning told units stop known = (stop ≢ Memory) × IsOnePlan told units (Err stop) known

-- a fault has its cause in the folder, and names a file of it
abbrev pub HasCause : Stop → ℕ → ℕ → Type 0
HasCause stop before after = (file : ℕ) → stop ≡ ReadFault file → Rose before after × (is_held fresh file ≡ false)

-- The files are told, and the units are read within the limits.
pub record HoldsUnits (told : Option Files) (units : List Source) : Type 0 where
  pub files : Files
  pub are_told : told ≡ Some files
  pub readings : List Reading
  pub begun : ℕ
  pub known : Loaded
  pub are_read : ReadsProject files units fresh (ending (Ok readings) begun known)

-- ---- texts

-- the report, as JSON or as lines
abbrev pub report : Bool → Plan → List ℕ
report json plan = if json then json_of plan else report_of plan

-- The line that says why there is no plan, where these are the files' names by number. The number that no file has stands for the
-- project's own word.
abbrev pub line_of_no_plan : List ℕ → List (List ℕ) → Stop → List ℕ
line_of_no_plan project names (Limit limit) =
    if limit.file == no_file then limit_line limit.number project else line_of_stop names (Limit limit)
line_of_no_plan project names Memory = line_of_stop names Memory
line_of_no_plan project names (Refused refusal) = line_of_stop names (Refused refusal)
line_of_no_plan project names (ReadFault file) = line_of_stop names (ReadFault file)

-- what applying a plan needs: its files, for each of them the line that says that it can't be written, and the report
abbrev pub prepared_of : Bool → Plan → Prepared
prepared_of json plan =
    record { files = plan.files; lines = map (λ (file : Changed). write_fault_line file.name) plan.files; report = report json plan }
