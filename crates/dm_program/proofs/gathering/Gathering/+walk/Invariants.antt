-- What the trees that are left add to the objects so far is what all add. A tree's depth measures the recursion, and a helper that is given
-- trees counts one more than twice the deepest.
use Rattle.std.proofs.Common.{◌+◌, ◌*◌, ◌≤◌, length, map}
use Rattle.std.specs.Option.{option_map_or}
use denote.Param.Weighed.{most}
use Rattle.dm_tree.specs.declared.tree.Core.{size-Core}
use Rattle.dm_tree.specs.declared.tree.Form.{size-Form}
use Rattle.dm_tree.specs.TypeNumbers.{all_pass, are_known}
use Rattle.dm_tree.specs.Views.{view}
use Rattle.dm_program.specs.declared.gathering.Gathering.{Gathering}
use Rattle.dm_program.specs.Gathering.{Gathers, locals_in_list}
use Rattle.dm_program.proofs.gathering.Gathering.+walk.Given as goal

abbrev pub decreases-tree : goal.decreases-tree
decreases-tree l = 2 * size-Core l.tree.now

abbrev pub decreases-form : goal.decreases-form
decreases-form l = 2 * size-Form l.form.now

abbrev pub decreases-optional : goal.decreases-optional
decreases-optional l = 2 * option_map_or size-Core l.tree.now 0 + 1

abbrev pub decreases-trees : goal.decreases-trees
decreases-trees l = 2 * most size-Core l.trees.now + 1

abbrev pub invariant-trees-loop-tree : goal.invariant-trees-loop-tree
invariant-trees-loop-tree l =
    (most size-Core l.left ≤ most size-Core l.fn.trees)
    × ((made : Gathering) → Gathers l.self (λ n. all_pass (map (are_known n) l.left)) (λ table. locals_in_list (map (view table) l.left)) made
    → Gathers l.fn.self (λ n. all_pass (map (are_known n) l.fn.trees)) (λ table. locals_in_list (map (view table) l.fn.trees)) made)

abbrev pub decreases-trees-loop-tree : goal.decreases-trees-loop-tree
decreases-trees-loop-tree l = length l.left
