-- The jumps that are left lead to the same place.
use Rattle.std.proofs.Common.{◌≡◌, ◌+◌}
use Rattle.dm_around.specs.Places.{jumps}
use Rattle.dm_around.proofs.ends.end_behind.Given as goal

abbrev pub invariant-loop-left : goal.invariant-loop-left
invariant-loop-left l = jumps l.ends l.left l.at ≡ jumps l.ends l.count (l.number + 1)

abbrev pub decreases-loop-left : goal.decreases-loop-left
decreases-loop-left l = l.left
