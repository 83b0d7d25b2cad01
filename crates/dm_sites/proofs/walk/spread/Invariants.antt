-- All places are those that were found, those in the trees of the ones that wait, and others.
use Rattle.std.proofs.Common.{◌≡◌, [], List}
use Rattle.dm_type.specs.Tables.{Table}
use Rattle.dm_tree.specs.Views.{entries_of}
use Rattle.dm_sites.specs.Rows.{nodes_left}
use Rattle.dm_sites.specs.Sites.{Site}
use Rattle.dm_sites.specs.Walks.{IsLeft}
use Rattle.dm_sites.proofs.walk.spread.Given as goal

abbrev pub invariant-loop-site : goal.invariant-loop-site
invariant-loop-site l =
    (l.row.items ≡ [])
    × ((types : Table) (all rest : List Site) → IsLeft types (entries_of types l.declared) all rest l.fn.found.items l.fn.waiting.items
    → IsLeft types (entries_of types l.declared) all rest l.found.items l.waiting.items)

abbrev pub decreases-loop-site : goal.decreases-loop-site
decreases-loop-site l = nodes_left l.waiting.items
