-- What is left is built as the whole is. A tree's depth measures the walk.
use Rattle.std.proofs.Common.{◌≡◌, ◌+◌, ◌*◌, ◌≤◌, map, length}
use Rattle.std.specs.Option.{option_copied, option_map_or}
use denote.Param.Weighed.{most}
use Rattle.dm_type.specs.Tables.{Table}
use Rattle.dm_tree.specs.declared.tree.Core.{size-Core}
use Rattle.dm_tree.specs.Views.{view}
use Rattle.dm_effect.specs.Forms.{is_built}
use Rattle.dm_effect.specs.Stable.{steady_rule}
use Rattle.dm_effect.proofs.WalkLemmas.{depth_of}
use Rattle.dm_stable.specs.Built.{are_built_all}
use Rattle.dm_stable.proofs.steady.+steady.Given as goal

abbrev pub decreases-has_steady_leaves : goal.decreases-has_steady_leaves
decreases-has_steady_leaves g l = 4 * size-Core l.tree.now

abbrev pub decreases-parts_have_steady_leaves : goal.decreases-parts_have_steady_leaves
decreases-parts_have_steady_leaves g l = 4 * depth_of l.parts + 2

abbrev pub decreases-part_has_steady_leaves : goal.decreases-part_has_steady_leaves
decreases-part_has_steady_leaves g l = 4 * option_map_or size-Core (option_copied l.part) 0 + 1

abbrev pub decreases-all_have_steady_leaves : goal.decreases-all_have_steady_leaves
decreases-all_have_steady_leaves g l = 4 * most size-Core l.trees.now + 1

abbrev pub invariant-has_steady_leaves-loop-at : goal.invariant-has_steady_leaves-loop-at
invariant-has_steady_leaves-loop-at g l =
    (size-Core l.at ≤ size-Core l.fn.tree)
    × ((types : Table) → is_built (steady_rule (g.N.Names.test l.names)) (view types l.at) ≡ is_built (steady_rule (g.N.Names.test l.names)) (view types l.fn.tree))

abbrev pub invariant-all_have_steady_leaves-loop-tree : goal.invariant-all_have_steady_leaves-loop-tree
invariant-all_have_steady_leaves-loop-tree g l =
    (most size-Core l.left ≤ most size-Core l.fn.trees)
    × ((types : Table)
    → are_built_all (steady_rule (g.N.Names.test l.names)) (map (view types) l.left) ≡ are_built_all (steady_rule (g.N.Names.test l.names)) (map (view types) l.fn.trees))

abbrev pub decreases-all_have_steady_leaves-loop-tree : goal.decreases-all_have_steady_leaves-loop-tree
decreases-all_have_steady_leaves-loop-tree g l = length l.left
