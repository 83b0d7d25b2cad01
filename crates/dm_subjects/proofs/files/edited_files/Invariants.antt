-- The entries so far are marked.
use Rattle.std.proofs.Common.{◌≡◌, length, drop}
use Rattle.dm_subjects.proofs.FileLemmas.{AreMarked}
use Rattle.dm_subjects.proofs.files.edited_files.Given as goal

abbrev pub invariant-loop-entry : goal.invariant-loop-entry
invariant-loop-entry l = record {
  long : length l.edited.items ≡ l.count;
  marked : AreMarked l.entries l.edited.items (drop l.entry-index l.entries);
}
