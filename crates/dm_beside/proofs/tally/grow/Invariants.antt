-- The table says the same as before.
use Rattle.std.proofs.Common.{◌≡◌, ℕ, ◌+◌, ◌-◌, vec_len}
use Rattle.dm_beside.specs.Tallies.{tally_at}
use Rattle.dm_beside.proofs.tally.grow.Given as goal

abbrev pub invariant-loop-table : goal.invariant-loop-table
invariant-loop-table l = (n : ℕ) → tally_at l.table.items n ≡ tally_at l.fn.table.items n

abbrev pub decreases-loop-table : goal.decreases-loop-table
decreases-loop-table l = l.at + 1 - vec_len l.table
