-- The table says the same as before.
use Rattle.std.proofs.Common.{◌≡◌, ℕ, ◌-◌, vec_len}
use Rattle.dm_effect.specs.Questions.{is_quiet_since}
use Rattle.dm_effect.proofs.quieting.grow.Given as goal

abbrev pub invariant-loop-since : goal.invariant-loop-since
invariant-loop-since l = (token d : ℕ) → is_quiet_since l.since.items token d ≡ is_quiet_since l.fn.since.items token d

abbrev pub decreases-loop-since : goal.decreases-loop-since
decreases-loop-since l = l.least - vec_len l.since
