-- When what is asked for can be done: the files are told, and hold what is needed.
use Rattle.std.specs.Prelude.{List, ℕ, Option, Some}
use Rattle.dm_token.specs.declared.unit.Unit.{Unit as Source}
use Rattle.dm_io.specs.Files.{Files}
use Rattle.dm_words.specs.Requests.{Request, RunRequest, plan, apply, expand, run, gen}
use Rattle.dm_sources.specs.Sources.{IsProject, HasUnit}
use Rattle.dm_apply.specs.Plans.{HoldsUnits}
use Rattle.dm_apply.specs.Summaries.{files_of, units}
use Rattle.dm_expanding.specs.Endings.{HoldsUnit}
use Rattle.dm_running.specs.Endings.{HoldsRun}

-- the project has units, which are read within the limits
abbrev pub HoldsProject : Option Files → List ℕ → Type 0
HoldsProject told project = (sources : List Source) × IsProject told project sources × HoldsUnits told sources

-- the project has the unit, its input is there, and its run can be put
abbrev pub HoldsProgram : Option Files → RunRequest → Type 0
HoldsProgram told request = (unit : Source) × HasUnit told request.project request.file unit × HoldsRun told request unit

abbrev pub Holds : Option Files → Request → Type 0
Holds told (plan project json) = HoldsProject told project
Holds told (apply project json) = HoldsProject told project
Holds told (expand project file) = HoldsUnit told project file
Holds told (run request) = HoldsProgram told request
Holds told (gen count) = HoldsUnits (Some (files_of count)) units
