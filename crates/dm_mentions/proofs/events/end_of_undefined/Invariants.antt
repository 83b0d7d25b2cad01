-- Those passed and those to come are all that stand before the definition.
use Rattle.std.proofs.Common.{◌≡◌, ◌+◌, ◌≤◌, ◌-◌, drop, length}
use Rattle.std.specs.Prelude.{nat_le}
use Rattle.std.specs.List.{prefix_len}
use Rattle.dm_mentions.proofs.events.end_of_undefined.Given as goal

abbrev pub invariant-loop-at : goal.invariant-loop-at
invariant-loop-at l =
    (l.at ≤ length l.fn.counts)
    × (l.at + prefix_len (λ count. nat_le count l.fn.defined) (drop l.at l.fn.counts) ≡ l.fn.from + prefix_len (λ count. nat_le count l.fn.defined) (drop l.fn.from l.fn.counts))

abbrev pub decreases-loop-at : goal.decreases-loop-at
decreases-loop-at l = length l.fn.counts - l.at
