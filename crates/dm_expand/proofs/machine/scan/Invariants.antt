use Rattle.std.proofs.Common.{◌≡◌, List, length}
use Rattle.dm_expand.specs.Items.{Item}
use Rattle.dm_expand.specs.HeadViews.{macros_of}
use Rattle.dm_expand.specs.ListViews.{tokens_before}
use Rattle.dm_expand.specs.Works.{scanned_on, ArePut}
use Rattle.dm_expand.proofs.machine.scan.Given as goal

abbrev pub invariant-tokens : goal.invariant-tokens
invariant-tokens l =
    (more : List Item)
    × ArePut l.outermost l.fn.put.items more l.put.items
    × (scanned_on (macros_of l.macros) l.fn.level l.progress ≡ tokens_before more (scanned_on (macros_of l.macros) l.level l.progress))

abbrev pub decreases-tokens : goal.decreases-tokens
decreases-tokens l = length l.level.rest
