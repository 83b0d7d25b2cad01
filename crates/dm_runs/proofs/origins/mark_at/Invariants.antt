-- The mark isn't inside of the rest.
use Rattle.std.proofs.Common.{◌≡◌, length, slice_get}
use Rattle.dm_runs.proofs.origins.mark_at.Given as goal

abbrev pub invariant-loop-shorter : goal.invariant-loop-shorter
invariant-loop-shorter l = slice_get l.trail l.outer ≡ slice_get l.rest l.outer

abbrev pub decreases-loop-shorter : goal.decreases-loop-shorter
decreases-loop-shorter l = length l.rest
