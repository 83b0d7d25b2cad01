use Rattle.std.proofs.Common.{◌≡◌, ◌++◌, reverse, length}
use Rattle.dm_route.proofs.joining.add_marks.Given as goal

abbrev pub invariant-marks : goal.invariant-marks
invariant-marks l = l.marks.items ++ reverse l.room.items ≡ l.fn.marks.items ++ l.trail

abbrev pub decreases-marks : goal.decreases-marks
decreases-marks l = length l.room.items
