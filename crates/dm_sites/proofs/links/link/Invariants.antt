-- Those from some place on are linked.
use Rattle.std.proofs.Common.{◌≡◌, ◌≤◌, List, map, length}
use Rattle.dm_type.specs.Tables.{Table}
use Rattle.dm_sites.specs.Links.{AreLinkedFrom}
use Rattle.dm_sites.specs.Seen.{seen}
use Rattle.dm_sites.specs.Sites.{Site}
use Rattle.dm_sites.proofs.links.link.Given as goal

abbrev pub invariant-loop-number : goal.invariant-loop-number
invariant-loop-number l =
    (l.number ≤ length l.found) × ((types : Table) (all : List Site) → map (seen types all) l.found ≡ all → AreLinkedFrom l.number all l.heads.items l.next.items)

abbrev pub decreases-loop-number : goal.decreases-loop-number
decreases-loop-number l = l.number
