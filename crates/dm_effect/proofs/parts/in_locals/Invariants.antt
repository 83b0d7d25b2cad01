-- The part stands among the declarators that are left.
use Rattle.std.proofs.Common.{◌≡◌, ◌++◌, map, List, length}
use Rattle.dm_type.specs.Tables.{Table}
use Rattle.dm_tree.specs.Paths.{tree_in}
use Rattle.dm_tree.specs.Trees.{Tree, trees}
use Rattle.dm_tree.specs.Views.{expressions_of_locals, view_of_local}
use Rattle.dm_effect.proofs.parts.in_locals.Given as goal

abbrev pub invariant-loop-local : goal.invariant-loop-local
invariant-loop-local l = (types : Table) (rest : List Tree) →
    tree_in (trees (expressions_of_locals (map (view_of_local types) l.fn.locals) ++ rest)) l.fn.number
    ≡ tree_in (trees (expressions_of_locals (map (view_of_local types) l.others) ++ rest)) l.left

abbrev pub decreases-loop-local : goal.decreases-loop-local
decreases-loop-local l = length l.others
