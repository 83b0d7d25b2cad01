-- Nothing is noted so far.
use Rattle.std.proofs.Common.{ℕ, ◌-◌, false, vec_len}
use Rattle.dm_stable.specs.Marks.{Tells, mark_at}
use Rattle.dm_stable.proofs.objects.unmarked.Given as goal

abbrev pub invariant-loop-marks : goal.invariant-loop-marks
invariant-loop-marks l = (d token : ℕ) → Tells (mark_at l.marks.items d) token false

abbrev pub decreases-loop-marks : goal.decreases-loop-marks
decreases-loop-marks l = l.count - vec_len l.marks
