-- What is seen of the rest behind what is seen so far is what is seen of the whole.
use Rattle.std.proofs.Common.{◌≡◌, drop, map}
use Rattle.dm_syn.specs.Views as view
use Rattle.dm_names.specs.Seen as seen
use Rattle.dm_names.specs.Walks.{source_in}
use Rattle.dm_names.proofs.walk.Walk.+statements.Given as goal

abbrev pub invariant-block_items-loop-item : goal.invariant-block_items-loop-item
invariant-block_items-loop-item l = seen.block_items (source_in l.self) l.so_far (view.block_items (map view.block_item (drop l.item-index l.items))) ≡ seen.block_items (source_in l.self) l.fn.so_far (view.block_items (map view.block_item l.items))

abbrev pub invariant-switch_items-loop-item : goal.invariant-switch_items-loop-item
invariant-switch_items-loop-item l = seen.switch_items (source_in l.self) l.so_far (view.switch_items (map view.switch_item (drop l.item-index l.items))) ≡ seen.switch_items (source_in l.self) l.fn.so_far (view.switch_items (map view.switch_item l.items))
