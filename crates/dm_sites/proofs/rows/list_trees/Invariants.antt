-- What was listed, and what is left.
use Rattle.std.proofs.Common.{◌≡◌, ◌++◌, map, length}
use Rattle.dm_type.specs.Tables.{Table}
use Rattle.dm_tree.specs.Views.{view}
use Rattle.dm_sites.specs.Rows.{row}
use Rattle.dm_sites.proofs.rows.list_trees.Given as goal

abbrev pub invariant-loop-tree : goal.invariant-loop-tree
invariant-loop-tree l = (types : Table) → row types l.row.items ++ map (view types) l.left ≡ row types l.fn.row.items ++ map (view types) l.fn.trees

abbrev pub decreases-loop-tree : goal.decreases-loop-tree
decreases-loop-tree l = length l.left
