use Rattle.std.proofs.Common.{◌≡◌, ◌++◌, List, map}
use Rattle.dm_expand.specs.Items.{Item}
use Rattle.dm_expand.specs.Expansion.{token_of}
use Rattle.dm_expand.specs.HeadViews.{macros_of}
use Rattle.dm_expand.specs.Laws.{Follows}
use Rattle.dm_expand.specs.Views.{IsWithin}
use Rattle.dm_expand.specs.ListViews.{tokens_before}
use Rattle.dm_expand.specs.Works.{outward, scanned_on, load}
use Rattle.dm_expand.proofs.machine.advance.Given as goal

abbrev pub invariant-levels : goal.invariant-levels
invariant-levels l =
    (more : List Item)
    × (l.put.items ≡ l.fn.put.items ++ map token_of more)
    × (outward (macros_of l.macros) l.fn.waiting.items (scanned_on (macros_of l.macros) l.fn.level l.fn.progress)
    ≡ tokens_before more (outward (macros_of l.macros) l.waiting.items (scanned_on (macros_of l.macros) l.level l.progress)))
    × Follows l.fn.progress l.progress
    × IsWithin l.progress

abbrev pub decreases-levels : goal.decreases-levels
decreases-levels l = load l.waiting.items
