-- What was listed, and what is left.
use Rattle.std.proofs.Common.{◌≡◌, ◌++◌, map, length}
use Rattle.dm_type.specs.Tables.{Table}
use Rattle.dm_tree.specs.Views.{expressions_of_locals, view_of_local}
use Rattle.dm_sites.specs.Rows.{row}
use Rattle.dm_sites.proofs.rows.list_locals.Given as goal

abbrev pub invariant-loop-local : goal.invariant-loop-local
invariant-loop-local l = (types : Table) →
    row types l.row.items ++ expressions_of_locals (map (view_of_local types) l.left) ≡ row types l.fn.row.items ++ expressions_of_locals (map (view_of_local types) l.fn.locals)

abbrev pub decreases-loop-local : goal.decreases-loop-local
decreases-loop-local l = length l.left
