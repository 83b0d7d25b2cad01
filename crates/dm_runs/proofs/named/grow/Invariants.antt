-- The counts say the same as before.
use Rattle.std.proofs.Common.{◌≡◌, ℕ, ◌+◌, ◌-◌, get_or, vec_len}
use Rattle.dm_runs.proofs.named.grow.Given as goal

abbrev pub invariant-loop-counts : goal.invariant-loop-counts
invariant-loop-counts l = (other : ℕ) → get_or l.counts.items other 0 ≡ get_or l.fn.counts.items other 0

abbrev pub decreases-loop-counts : goal.decreases-loop-counts
decreases-loop-counts l = l.parameter + 1 - vec_len l.counts
