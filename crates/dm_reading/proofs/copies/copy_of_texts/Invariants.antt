-- So far there are copies of the first.
use Rattle.std.proofs.Common.{◌≡◌, take}
use Rattle.dm_reading.proofs.copies.copy_of_texts.Given as goal

abbrev pub invariant-loop-text : goal.invariant-loop-text
invariant-loop-text l = l.copies ≡ take l.text-index l.texts
