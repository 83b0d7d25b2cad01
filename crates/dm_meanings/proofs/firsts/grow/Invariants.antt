-- The table says the same as before.
use Rattle.std.proofs.Common.{◌≡◌, ℕ, ◌+◌, ◌-◌, vec_len}
use Rattle.dm_meanings.specs.Wanted.{entry_at}
use Rattle.dm_meanings.proofs.firsts.grow.Given as goal

abbrev pub invariant-loop-spans : goal.invariant-loop-spans
invariant-loop-spans l = (n : ℕ) → entry_at l.spans.items n ≡ entry_at l.fn.spans.items n

abbrev pub decreases-loop-spans : goal.decreases-loop-spans
decreases-loop-spans l = l.at + 1 - vec_len l.spans
