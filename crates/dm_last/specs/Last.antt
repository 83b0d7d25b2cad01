-- The files that a plan leaves, and the readings of units over files.
--     with_files told files      the files after these were given their new bytes
--     IsOver files loaded      a loader holds no other bytes than the folder
--     IsReadOver files units project      the units of a project have its readings over these files
use Rattle.std.specs.Prelude.{◌≡◌, ℕ, List, [], ◌∷◌, length, Option, Ok}
use Rattle.dm_token.specs.declared.unit.Unit.{Unit as Source}
use Rattle.dm_io.specs.Files.{Files, with_file}
use Rattle.dm_search.specs.CallFiles.{file_for}
use Rattle.dm_search.specs.Fresh.{fresh}
use Rattle.dm_search.specs.Loaded.{Loaded}
use Rattle.dm_edit.specs.declared.plan.Changed.{Changed}
use Rattle.dm_local.specs.Kept.{IsOfLoader}
use Rattle.dm_readings.specs.Units.{ReadsProject, ending}
use Rattle.dm_planning.specs.Judging.{Project}

-- the files after these were given their new bytes
abbrev pub with_files : Option Files → List Changed → Option Files
with_files told [] = told
with_files told (file ∷ files) = with_files (with_file told file.name file.bytes) files

-- By this loader each name has the file that it has for a new one: that of the folder, or the built-in header.
abbrev pub IsOver : Files → Loaded → Type 0
IsOver files loaded = (name : List ℕ) → file_for loaded files name ≡ file_for fresh files name

-- All units are read over these files within the limits, and have these readings, by a loader that has the folder's bytes and keeps the
-- numbers that the files have.
pub record IsReadOver (files : Files) (units : List Source) (project : Project) : Type 0 where
  pub loader : IsOfLoader project.loaded
  pub over : IsOver files project.loaded
  pub reads : ReadsProject files units project.loaded (ending (Ok project.readings) (length units) project.loaded)
