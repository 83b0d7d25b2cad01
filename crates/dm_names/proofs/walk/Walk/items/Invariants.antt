-- What is seen of the rest behind what is seen so far is what is seen of the whole.
use Rattle.std.proofs.Common.{◌≡◌, drop, map}
use Rattle.dm_syn.specs.Views as view
use Rattle.dm_names.specs.Seen as seen
use Rattle.dm_names.specs.Walks.{source_in}
use Rattle.dm_names.proofs.walk.Walk.items.Given as goal

abbrev pub invariant-loop-item : goal.invariant-loop-item
invariant-loop-item l = seen.items (source_in l.self) l.so_far (map view.item (drop l.item-index l.items)) ≡ seen.items (source_in l.self) l.fn.so_far (map view.item l.items)
