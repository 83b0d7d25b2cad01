-- What the plan of a project does to the programs of its units.
--     AllRefine news olds      the program of each unit's new reading refines that of its old one
--     KeepsPrograms before after units plan      so it is between the files before and those that the plan leaves
use Rattle.std.specs.Prelude.{◌≡◌, List, length, Option, Some, Ok}
use Rattle.dm_token.specs.declared.unit.Unit.{Unit as Source}
use Rattle.dm_io.specs.Files.{Files}
use Rattle.dm_search.specs.Fresh.{fresh}
use Rattle.dm_edit.specs.declared.plan.Plan.{Plan}
use Rattle.dm_meaning.specs.Replaced.{Zipped}
use Rattle.dm_reading.specs.declared.reading.Reading.{Reading}
use Rattle.dm_refined.specs.Programs.{RefinesReading}
use Rattle.dm_readings.specs.Units.{ReadsProject, ending}
use Rattle.dm_planning.specs.Judging.{Project}
use Rattle.dm_planning.specs.Plans.{IsPlan}
use Rattle.dm_last.specs.Last.{IsReadOver}

abbrev pub AllRefine : List Reading → List Reading → Type 0
AllRefine news olds = Zipped RefinesReading news olds

-- The units have their first readings over the files before, and their last ones over those that the plan leaves. The program of each last reading
-- refines that of the first.
pub record KeepsPrograms (before after : Files) (units : List Source) (plan : Plan) : Type 0 where
  pub first : Project
  pub last : Project
  pub read : ReadsProject before units fresh (ending (Ok first.readings) (length units) first.loaded)
  pub planned : IsPlan (Some before) units first last plan
  pub left : IsReadOver after units last
  pub refine : AllRefine last.readings first.readings

-- the same where the files are told
abbrev pub KeepsToldPrograms : Option Files → Option Files → List Source → Plan → Type 0
KeepsToldPrograms told now units plan = (before after : Files) → told ≡ Some before → now ≡ Some after → KeepsPrograms before after units plan
