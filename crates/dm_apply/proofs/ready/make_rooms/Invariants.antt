-- There is room for each file so far.
use Rattle.std.proofs.Common.{◌≡◌, ℕ, ◌<◌, get_or}
use Rattle.dm_edit.specs.declared.plan.Changed.{Changed}
use Rattle.dm_apply.specs.Commits.{HasRoom}
use Rattle.dm_apply.proofs.ready.make_rooms.Given as goal

abbrev pub invariant-loop-file : goal.invariant-loop-file
invariant-loop-file g l = record {
  rooms : (k : ℕ) (d : Changed) → k < l.file-index → HasRoom (g.F.Folder.room l.folder) (get_or l.files k d);
  files : g.F.Folder.files l.folder ≡ g.F.Folder.files l.initial.folder;
  faults : g.F.Folder.faults l.folder ≡ g.F.Folder.faults l.initial.folder;
}
