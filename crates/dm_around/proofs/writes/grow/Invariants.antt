-- The rows say the same as before.
use Rattle.std.proofs.Common.{◌≡◌, ℕ, ◌+◌, ◌-◌, vec_len}
use Rattle.dm_around.specs.Writes.{row_at}
use Rattle.dm_around.proofs.writes.grow.Given as goal

abbrev pub invariant-loop-alloc : goal.invariant-loop-alloc
invariant-loop-alloc l = (d : ℕ) → row_at l.rows.items d ≡ row_at l.fn.rows.items d

abbrev pub decreases-loop-alloc : goal.decreases-loop-alloc
decreases-loop-alloc l = l.object + 1 - vec_len l.rows
