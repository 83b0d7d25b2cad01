-- The answer is yes where it is at what is left. A tree's depth measures the walk.
use Rattle.std.proofs.Common.{◌≡◌, map, ◌+◌, ◌*◌, ◌≤◌, length}
use Rattle.std.specs.List.{list_any}
use Rattle.std.specs.Option.{option_copied, option_map_or}
use denote.Param.Weighed.{most}
use Rattle.dm_type.specs.Tables.{Table}
use Rattle.dm_tree.specs.declared.tree.Core.{size-Core}
use Rattle.dm_tree.specs.declared.tree.Initial.{size-Initial}
use Rattle.dm_tree.specs.declared.tree.Local.{size-Local}
use Rattle.dm_tree.specs.Paths.{all_in}
use Rattle.dm_tree.specs.Views.{expressions_of_items, expressions_of_locals, view, view_of_local}
use Rattle.dm_meaning.specs.Wholes.{view_of_initial}
use Rattle.dm_effect.specs.Questions.{answer, is_asked}
use Rattle.dm_effect.proofs.WalkLemmas.{depth_of}
use Rattle.dm_effect.proofs.walk.+walk.Given as goal

abbrev pub decreases-any_node : goal.decreases-any_node
decreases-any_node l = 8 * size-Core l.tree.now + 3

abbrev pub decreases-any_part : goal.decreases-any_part
decreases-any_part l = 8 * depth_of l.parts + 7

abbrev pub decreases-any_optional : goal.decreases-any_optional
decreases-any_optional l = 8 * option_map_or size-Core (option_copied l.tree) 0 + 4

abbrev pub decreases-any_tree : goal.decreases-any_tree
decreases-any_tree l = 8 * most size-Core l.trees.now + 4

abbrev pub decreases-any_local : goal.decreases-any_local
decreases-any_local l = 8 * most size-Local l.locals.now + 6

abbrev pub decreases-in_initial : goal.decreases-in_initial
decreases-in_initial l = 8 * size-Initial l.initial.now + 4

abbrev pub decreases-any_initial : goal.decreases-any_initial
decreases-any_initial l = 8 * most size-Initial l.initials.now + 5

abbrev pub invariant-any_node-loop-at : goal.invariant-any_node-loop-at
invariant-any_node-loop-at l =
    (size-Core l.at ≤ size-Core l.fn.tree)
    × ((types : Table) → list_any (answer types l.question) (all_in (view types l.at)) ≡ list_any (answer types l.question) (all_in (view types l.fn.tree)))

abbrev pub invariant-any_tree-loop-tree : goal.invariant-any_tree-loop-tree
invariant-any_tree-loop-tree l =
    (most size-Core l.left ≤ most size-Core l.fn.trees)
    × ((types : Table) → is_asked types l.question (map (view types) l.left) ≡ is_asked types l.question (map (view types) l.fn.trees))

abbrev pub decreases-any_tree-loop-tree : goal.decreases-any_tree-loop-tree
decreases-any_tree-loop-tree l = length l.left

abbrev pub invariant-any_local-loop-local : goal.invariant-any_local-loop-local
invariant-any_local-loop-local l =
    (most size-Local l.left ≤ most size-Local l.fn.locals)
    × ((types : Table) → is_asked types l.question (expressions_of_locals (map (view_of_local types) l.left)) ≡ is_asked types l.question (expressions_of_locals (map (view_of_local types) l.fn.locals)))

abbrev pub decreases-any_local-loop-local : goal.decreases-any_local-loop-local
decreases-any_local-loop-local l = length l.left

abbrev pub invariant-any_initial-loop-initial : goal.invariant-any_initial-loop-initial
invariant-any_initial-loop-initial l =
    (most size-Initial l.left ≤ most size-Initial l.fn.initials)
    × ((types : Table) → is_asked types l.question (expressions_of_items (map (view_of_initial types) l.left)) ≡ is_asked types l.question (expressions_of_items (map (view_of_initial types) l.fn.initials)))

abbrev pub decreases-any_initial-loop-initial : goal.decreases-any_initial-loop-initial
decreases-any_initial-loop-initial l = length l.left
