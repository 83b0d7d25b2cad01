-- The newlines among the bytes that are left come behind those that were found.
use Rattle.std.proofs.Common.{◌≡◌, ◌++◌, drop}
use Rattle.dm_subjects.specs.Newlines.{newlines_from}
use Rattle.dm_subjects.proofs.newlines.newlines_in.Given as goal

abbrev pub invariant-loop-at : goal.invariant-loop-at
invariant-loop-at l = l.offsets ++ newlines_from l.at (drop l.at l.bytes) ≡ newlines_from 0 l.bytes
