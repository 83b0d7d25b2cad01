-- The newlines of the files so far.
use Rattle.std.proofs.Common.{◌≡◌, map}
use Rattle.std.specs.List.{range_with_len}
use Rattle.dm_subjects.specs.Newlines.{newlines_in}
use Rattle.dm_subjects.proofs.newlines.newlines_of_files.Given as goal

abbrev pub invariant-loop-file : goal.invariant-loop-file
invariant-loop-file l = l.newlines ≡ map (newlines_in l.loader) (range_with_len 0 l.file)
