-- Each value is dropped before those that hold it, so its depth measures the recursion. A helper that is given the parts of a form as they
-- are counts one more than twice the deepest.
use Rattle.std.proofs.Common.{◌+◌, ◌*◌, ◌≤◌, length}
use Rattle.std.specs.Option.{option_map_or}
use denote.Param.Weighed.{most}
use Rattle.dm_tree.specs.declared.tree.Core.{size-Core}
use Rattle.dm_tree.specs.declared.tree.Form.{size-Form}
use Rattle.dm_tree.specs.declared.tree.Initial.{size-Initial}
use Rattle.dm_tree.specs.declared.tree.Local.{size-Local}
use Rattle.dm_tree.proofs.tree.+tree_drop.Given as goal

abbrev pub decreases-Core::drop : goal.decreases-Core::drop
decreases-Core::drop l = 2 * size-Core l.self

abbrev pub decreases-Form::drop : goal.decreases-Form::drop
decreases-Form::drop l = 2 * size-Form l.self

abbrev pub decreases-Local::drop : goal.decreases-Local::drop
decreases-Local::drop l = 2 * size-Local l.self

abbrev pub decreases-Initial::drop : goal.decreases-Initial::drop
decreases-Initial::drop l = 2 * size-Initial l.self

abbrev pub decreases-drop_option : goal.decreases-drop_option
decreases-drop_option l = 2 * option_map_or size-Core l.tree 0 + 1

abbrev pub decreases-drop_trees : goal.decreases-drop_trees
decreases-drop_trees l = 2 * most size-Core l.list + 1

abbrev pub decreases-drop_locals : goal.decreases-drop_locals
decreases-drop_locals l = 2 * most size-Local l.list + 1

abbrev pub decreases-drop_initials : goal.decreases-drop_initials
decreases-drop_initials l = 2 * most size-Initial l.list + 1

abbrev pub invariant-Core::drop-loop-left : goal.invariant-Core::drop-loop-left
invariant-Core::drop-loop-left l = size-Core l.self ≤ size-Core l.initial.self

abbrev pub decreases-Core::drop-loop-left : goal.decreases-Core::drop-loop-left
decreases-Core::drop-loop-left l = size-Core l.self

abbrev pub invariant-drop_initials-loop-initial : goal.invariant-drop_initials-loop-initial
invariant-drop_initials-loop-initial l = most size-Initial l.initials.items ≤ most size-Initial l.fn.list

abbrev pub decreases-drop_initials-loop-initial : goal.decreases-drop_initials-loop-initial
decreases-drop_initials-loop-initial l = length l.initials.items

abbrev pub invariant-drop_locals-loop-local : goal.invariant-drop_locals-loop-local
invariant-drop_locals-loop-local l = most size-Local l.locals.items ≤ most size-Local l.fn.list

abbrev pub decreases-drop_locals-loop-local : goal.decreases-drop_locals-loop-local
decreases-drop_locals-loop-local l = length l.locals.items

abbrev pub invariant-drop_trees-loop-tree : goal.invariant-drop_trees-loop-tree
invariant-drop_trees-loop-tree l = most size-Core l.trees.items ≤ most size-Core l.fn.list

abbrev pub decreases-drop_trees-loop-tree : goal.decreases-drop_trees-loop-tree
decreases-drop_trees-loop-tree l = length l.trees.items
