use Rattle.std.proofs.Common.{◌≡◌, drop, map, max}
use Rattle.dm_syn.specs.Heights as height
use Rattle.dm_syn.specs.Views as view
use Rattle.dm_syn.specs.Capped.{capped}
use Rattle.dm_syn.proofs.heights.+statement_heights.Given as goal

-- the highest so far and the highest of the rest are the highest
abbrev pub invariant-block_items_height-loop-item : goal.invariant-block_items_height-loop-item
invariant-block_items_height-loop-item l = max l.greatest (capped (height.block_items_height (view.block_items (map view.block_item (drop l.item-index l.items))))) ≡ capped (height.block_items_height (view.block_items (map view.block_item l.items)))

-- the highest so far and the highest of the rest are the highest
abbrev pub invariant-switch_items_height-loop-item : goal.invariant-switch_items_height-loop-item
invariant-switch_items_height-loop-item l = max l.greatest (capped (height.switch_items_height (view.switch_items (map view.switch_item (drop l.item-index l.items))))) ≡ capped (height.switch_items_height (view.switch_items (map view.switch_item l.items)))
