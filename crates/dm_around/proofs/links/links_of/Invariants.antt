-- The places so far have links.
use Rattle.std.proofs.Common.{◌≡◌, ◌≤◌, ◌-◌, length}
use Rattle.dm_around.proofs.LinkLemmas.{LinksSoFar}
use Rattle.dm_around.proofs.links.links_of.Given as goal

abbrev pub invariant-loop-number : goal.invariant-loop-number
invariant-loop-number l = (l.number ≤ length l.parents) × (length l.links.items ≡ l.number) × LinksSoFar l.sites l.parents l.links.items

abbrev pub decreases-loop-number : goal.decreases-loop-number
decreases-loop-number l = length l.parents - l.number
