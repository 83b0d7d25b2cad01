-- None of those that were looked at overlaps.
use Rattle.std.proofs.Common.{◌≡◌, length, map}
use Rattle.dm_meaning.specs.Values.{overlaps_any}
use Rattle.dm_value.specs.Places.{view_of_at}
use Rattle.dm_value.proofs.place.At.overlaps_any.Given as goal

abbrev pub invariant-loop-first : goal.invariant-loop-first
invariant-loop-first l = overlaps_any (view_of_at l.self) (map view_of_at l.left) ≡ overlaps_any (view_of_at l.fn.self) (map view_of_at l.fn.locks)

abbrev pub decreases-loop-first : goal.decreases-loop-first
decreases-loop-first l = length l.left
