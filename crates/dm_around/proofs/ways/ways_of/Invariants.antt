-- The ways to the places so far are known.
use Rattle.std.proofs.Common.{◌-◌, length}
use Rattle.dm_type.specs.Tables.{no_type}
use Rattle.dm_around.proofs.ParentLemmas.{all_of}
use Rattle.dm_around.proofs.WayLemmas.{WaysSoFar}
use Rattle.dm_around.proofs.ways.ways_of.Given as goal

abbrev pub invariant-loop-site : goal.invariant-loop-site
invariant-loop-site l = WaysSoFar l.sites l.parents l.known.items

abbrev pub decreases-loop-site : goal.decreases-loop-site
decreases-loop-site l = length (all_of no_type l.sites) - length l.known.items
