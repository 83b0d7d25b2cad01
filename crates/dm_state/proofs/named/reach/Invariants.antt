-- The places of the table say the same.
use Rattle.std.proofs.Common.{◌≡◌, ℕ, suc, ◌-◌, vec_len}
use Rattle.dm_state.specs.Named.{at_number}
use Rattle.dm_state.proofs.named.reach.Given as goal

abbrev pub invariant-loop-table : goal.invariant-loop-table
invariant-loop-table l = (d : ℕ) → at_number l.table.items d ≡ at_number l.fn.table.items d

abbrev pub decreases-loop-table : goal.decreases-loop-table
decreases-loop-table l = suc l.place - vec_len l.table
