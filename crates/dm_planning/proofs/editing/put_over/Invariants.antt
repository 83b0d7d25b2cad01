-- The new items that are left, put in place of the items so far, are all put in.
use Rattle.std.proofs.Common.{◌≡◌, ◌≤◌, length}
use Rattle.dm_planning.specs.Steps.{items_with}
use Rattle.dm_planning.proofs.editing.put_over.Given as goal

abbrev pub invariant-loop-new : goal.invariant-loop-new
invariant-loop-new g l = record {
  inside : length l.left.items ≤ length l.items.items;
  all : items_with l.items.items l.left.items ≡ items_with l.initial.items.items l.initial.left.items;
}

abbrev pub decreases-loop-new : goal.decreases-loop-new
decreases-loop-new g l = length l.left.items
