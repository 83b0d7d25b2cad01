-- The table says the same as before.
use Rattle.std.proofs.Common.{◌≡◌, ℕ, ◌+◌, ◌-◌, vec_len}
use Rattle.dm_sites.specs.Links.{linked}
use Rattle.dm_sites.proofs.links.grow.Given as goal

abbrev pub invariant-loop-numbers : goal.invariant-loop-numbers
invariant-loop-numbers l = (n : ℕ) → linked l.numbers.items n ≡ linked l.fn.numbers.items n

abbrev pub decreases-loop-numbers : goal.decreases-loop-numbers
decreases-loop-numbers l = l.at + 1 - vec_len l.numbers
