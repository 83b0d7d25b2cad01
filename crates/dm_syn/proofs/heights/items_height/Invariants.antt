use Rattle.std.proofs.Common.{◌≡◌, drop, map, max}
use Rattle.dm_syn.specs.Heights as height
use Rattle.dm_syn.specs.Views as view
use Rattle.dm_syn.specs.Capped.{capped}
use Rattle.dm_syn.proofs.heights.items_height.Given as goal

-- the highest so far and the highest of the rest are the highest
abbrev pub invariant-loop-item : goal.invariant-loop-item
invariant-loop-item l = max l.greatest (capped (height.items_height (map view.item (drop l.item-index l.items)))) ≡ capped (height.items_height (map view.item l.items))
