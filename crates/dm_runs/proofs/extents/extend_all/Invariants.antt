-- Those with the numbers up to here are extended.
use Rattle.std.proofs.Common.{◌≡◌, fold, take}
use Rattle.dm_runs.specs.Extents.{extended_at}
use Rattle.dm_runs.proofs.extents.extend_all.Given as goal

abbrev pub invariant-loop-number : goal.invariant-loop-number
invariant-loop-number l = l.extents ≡ fold (extended_at l.position) l.initial.extents (take l.number-index l.numbers)
