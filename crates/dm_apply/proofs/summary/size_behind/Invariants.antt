-- The size is that of the file when the files so far are written.
use Rattle.std.proofs.Common.{◌≡◌, Some, length, take}
use Rattle.dm_io.specs.Files.{Files}
use Rattle.dm_last.specs.Last.{with_files}
use Rattle.dm_apply.specs.Summaries.{bytes_at}
use Rattle.dm_apply.proofs.summary.size_behind.Given as goal

abbrev pub invariant-loop-file : goal.invariant-loop-file
invariant-loop-file l = (folder : Files) → l.fn.old ≡ length (bytes_at (Some folder) l.name)
    → l.size ≡ length (bytes_at (with_files (Some folder) (take l.file-index l.files)) l.name)
