-- What the units that are left come to, behind those that were read, all units come to.
use Rattle.std.proofs.Common.{◌≡◌, ◌+◌, ◌≤◌, All, None, Some, length, drop}
use Rattle.dm_io.specs.Files.{Files}
use Rattle.dm_reading.specs.Layered.{IsLayered}
use Rattle.dm_readings.specs.Leaves.{Leaves}
use Rattle.dm_readings.specs.Units.{Ending, IsTyped, ReadsUnits, most_project_tokens, token_count}
use Rattle.dm_project.proofs.UnitLemmas.{all_behind}
use Rattle.dm_project.proofs.units.read_all.Given as goal

abbrev pub invariant-loop-unit : goal.invariant-loop-unit
invariant-loop-unit g l = record {
  spent : l.spent ≡ token_count l.given;
  within : l.spent ≤ most_project_tokens;
  given : length l.given ≡ l.unit-index;
  counted : l.readings ≡ l.initial.readings + l.unit-index;
  layers : All IsLayered l.given;
  typed : All IsTyped l.given;
  leaves : Leaves (g.F.Folder.files l.initial.folder) (g.F.Folder.files l.folder) (g.F.Folder.room l.initial.folder) (g.F.Folder.room l.folder)
      (g.F.Folder.faults l.initial.folder) (g.F.Folder.faults l.folder) l.initial.loader l.loader None;
  leads : (files : Files) → g.F.Folder.files l.initial.folder ≡ Some files → (rest : Ending)
      → ReadsUnits files (drop l.unit-index l.units) l.spent l.loader rest → ReadsUnits files l.units 0 l.initial.loader (all_behind l.given rest);
}
