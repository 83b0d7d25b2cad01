-- The places so far have parts of the expressions that come before them.
use Rattle.std.proofs.Common.{◌-◌, length}
use Rattle.dm_type.specs.Tables.{no_type}
use Rattle.dm_around.proofs.ParentLemmas.{SoFar, all_of}
use Rattle.dm_around.proofs.parents.parents_of.Given as goal

abbrev pub invariant-loop-site : goal.invariant-loop-site
invariant-loop-site l = SoFar l.sites l.parents.items l.left.items

abbrev pub decreases-loop-site : goal.decreases-loop-site
decreases-loop-site l = length (all_of no_type l.sites) - length l.parents.items
