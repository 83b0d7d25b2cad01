use Rattle.std.proofs.Common.{◌≡◌, ◌++◌, reverse, length, drop}
use Rattle.dm_route.proofs.walks.regrown.Given as goal

abbrev pub invariant-marks : goal.invariant-marks
invariant-marks l = l.longer ++ reverse l.marks.items ≡ l.fn.base ++ drop l.kept l.trail

abbrev pub decreases-marks : goal.decreases-marks
decreases-marks l = length l.marks.items
