-- The events that are done, which are the last ones, have their chains.
use Rattle.std.proofs.Common.{◌≡◌, ◌++◌, List, length, reverse}
use Rattle.dm_mentions.specs.declared.events.Event.{Event}
use Rattle.dm_mentions.specs.Mentions.{AreChains}
use Rattle.dm_mentions.proofs.chains.chained.Given as goal

abbrev pub invariant-loop-last : goal.invariant-loop-last
invariant-loop-last l = (behind : List Event) × (l.left ++ behind ≡ l.fn.events) × AreChains l.fn.pp (length l.left) behind l.first (reverse l.next.items)

abbrev pub decreases-loop-last : goal.decreases-loop-last
decreases-loop-last l = length l.left
