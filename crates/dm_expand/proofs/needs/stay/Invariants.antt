use Rattle.std.proofs.Common.{take}
use Rattle.dm_expand.specs.HeadViews.{macros_of}
use Rattle.dm_expand.specs.Laws.{AreNoNames}
use Rattle.dm_expand.proofs.needs.stay.Given as goal

abbrev pub invariant-loop-item : goal.invariant-loop-item
invariant-loop-item l = AreNoNames (macros_of l.macros) (take l.item-index l.items)
