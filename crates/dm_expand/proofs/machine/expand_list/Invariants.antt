use Rattle.std.proofs.Common.{◌≡◌, ◌-◌, List, map}
use Rattle.dm_expand.specs.Items.{Item}
use Rattle.dm_expand.specs.Steps.{greatest_work}
use Rattle.dm_expand.specs.Expansion.{expanded, token_of}
use Rattle.dm_expand.specs.HeadViews.{macros_of}
use Rattle.dm_expand.specs.Laws.{Follows}
use Rattle.dm_expand.specs.Views.{IsWithin}
use Rattle.dm_expand.specs.ListViews.{tokens_before}
use Rattle.dm_expand.specs.Works.{outward, scanned_on}
use Rattle.dm_expand.proofs.machine.expand_list.Given as goal

abbrev pub invariant-expansions : goal.invariant-expansions
invariant-expansions l =
    (more : List Item)
    × (l.put.items ≡ map token_of more)
    × (expanded (macros_of l.macros) l.fn.tokens.items l.fn.progress ≡ tokens_before more (outward (macros_of l.macros) l.waiting.items (scanned_on (macros_of l.macros) l.level l.progress)))
    × Follows l.fn.progress l.progress
    × IsWithin l.progress

abbrev pub decreases-expansions : goal.decreases-expansions
decreases-expansions l = greatest_work - l.progress.spent
