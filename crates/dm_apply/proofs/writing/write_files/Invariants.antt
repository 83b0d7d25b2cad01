-- The files so far are written.
use Rattle.std.proofs.Common.{◌≡◌, ℕ, ◌≤◌, List, take}
use Rattle.dm_last.specs.Last.{with_files}
use Rattle.dm_apply.proofs.writing.write_files.Given as goal

abbrev pub invariant-loop-at : goal.invariant-loop-at
invariant-loop-at g l = record {
  written : g.F.Folder.files l.folder ≡ with_files (g.F.Folder.files l.initial.folder) (take l.at l.files);
  rooms : (other : List ℕ) → g.F.Folder.room l.folder other ≡ g.F.Folder.room l.initial.folder other;
  later : g.F.Folder.faults l.initial.folder ≤ g.F.Folder.faults l.folder;
}
