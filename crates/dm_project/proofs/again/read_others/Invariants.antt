-- What the units that are left come to, behind those that were read, all of them come to.
use Rattle.std.proofs.Common.{◌≡◌, ◌+◌, ◌≤◌, None, Some, drop}
use Rattle.dm_io.specs.Files.{Files}
use Rattle.dm_search.specs.Loaded.{Loaded}
use Rattle.dm_readings.specs.Again.{ReadsOthers, reader_count}
use Rattle.dm_readings.specs.Leaves.{LeavesKnown}
use Rattle.dm_project.proofs.again.read_others.Given as goal

abbrev pub invariant-loop-at : goal.invariant-loop-at
invariant-loop-at g l = record {
  counted : l.readings + reader_count l.file (drop l.at l.kept) ≡ l.initial.readings + reader_count l.file (drop l.start l.kept);
  rises : l.initial.readings ≤ l.readings;
  leaves : LeavesKnown (g.F.Folder.files l.initial.folder) (g.F.Folder.files l.folder) (g.F.Folder.room l.initial.folder) (g.F.Folder.room l.folder)
      (g.F.Folder.faults l.initial.folder) (g.F.Folder.faults l.folder) l.initial.loader l.loader None;
  leads : (files : Files) → g.F.Folder.files l.initial.folder ≡ Some files → (last : Loaded)
      → ReadsOthers files l.file (drop l.at l.units) (drop l.at l.kept) l.loader last → ReadsOthers files l.file (drop l.start l.units) (drop l.start l.kept) l.initial.loader last;
}
