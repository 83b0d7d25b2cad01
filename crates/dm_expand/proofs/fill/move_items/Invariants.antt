use Rattle.std.proofs.Common.{◌≡◌, ◌++◌, map, take, drop}
use Rattle.dm_expand.specs.Ways.{moved}
use Rattle.dm_expand.proofs.fill.move_items.Given as goal

abbrev pub invariant-loop-item : goal.invariant-loop-item
invariant-loop-item l =
    (l.items ≡ map (moved l.fn.way) (take l.item-index l.fn.items) ++ drop l.item-index l.fn.items) × (l.way ≡ l.fn.way)
