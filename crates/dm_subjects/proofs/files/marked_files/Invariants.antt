-- The marked ones among the files so far.
use Rattle.std.proofs.Common.{◌≡◌, false, filter, map, slice_index_or}
use Rattle.std.specs.List.{range_with_len}
use Rattle.dm_subjects.specs.Files.{changed_file}
use Rattle.dm_subjects.proofs.files.marked_files.Given as goal

abbrev pub invariant-loop-file : goal.invariant-loop-file
invariant-loop-file l = l.files.items ≡ map (changed_file l.loader) (filter (λ file. slice_index_or l.edited file false) (range_with_len 0 l.file))
