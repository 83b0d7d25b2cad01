use Rattle.std.proofs.Common.{◌≡◌, ◌-◌, ◌+◌, ℕ, length}
use Rattle.std.specs.Prelude.{slice_index_or}
use Rattle.dm_macro.proofs.role.add_to.Given as goal

abbrev pub invariant-places : goal.invariant-places
invariant-places l = (other : ℕ) → slice_index_or l.counts.items other 0 ≡ slice_index_or l.fn.counts.items other 0

abbrev pub decreases-places : goal.decreases-places
decreases-places l = l.parameter + 1 - length l.counts.items
