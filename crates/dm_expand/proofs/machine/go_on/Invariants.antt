use Rattle.std.proofs.Common.{◌≡◌, ◌≤◌, ◌-◌, length}
use Rattle.dm_expand.specs.HeadViews.{macros_of}
use Rattle.dm_expand.specs.Laws.{Follows}
use Rattle.dm_expand.specs.Views.{IsWithin}
use Rattle.dm_expand.specs.Works.{completed_from}
use Rattle.dm_expand.proofs.machine.go_on.Given as goal

abbrev pub invariant-parts : goal.invariant-parts
invariant-parts l =
    (completed_from (macros_of l.macros) l.fn.level l.fn.filling l.from l.fn.progress ≡ completed_from (macros_of l.macros) l.level l.filling l.next l.progress)
    × (l.waiting.items ≡ l.fn.waiting.items)
    × (l.filling.body.definition.now ≡ l.fn.filling.body.definition.now)
    × (l.from ≤ l.next)
    × Follows l.fn.progress l.progress
    × IsWithin l.progress

abbrev pub decreases-parts : goal.decreases-parts
decreases-parts l = length l.filling.body.definition.now.body - l.next
