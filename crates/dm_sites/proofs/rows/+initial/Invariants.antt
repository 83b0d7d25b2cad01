-- What was listed, and what is left, which is no deeper.
use Rattle.std.proofs.Common.{◌≡◌, ◌++◌, map, ◌+◌, ◌*◌, ◌≤◌, length}
use denote.Param.Weighed.{most}
use Rattle.dm_type.specs.Tables.{Table}
use Rattle.dm_tree.specs.declared.tree.Initial.{size-Initial}
use Rattle.dm_tree.specs.Views.{expressions_of_items}
use Rattle.dm_meaning.specs.Wholes.{view_of_initial}
use Rattle.dm_sites.specs.Rows.{row}
use Rattle.dm_sites.proofs.rows.+initial.Given as goal

abbrev pub decreases-list_initial : goal.decreases-list_initial
decreases-list_initial l = 2 * size-Initial l.initial.now

abbrev pub decreases-list_initials : goal.decreases-list_initials
decreases-list_initials l = 2 * most size-Initial l.initials.now + 1

abbrev pub invariant-list_initials-loop-initial : goal.invariant-list_initials-loop-initial
invariant-list_initials-loop-initial l =
    (most size-Initial l.left ≤ most size-Initial l.fn.initials)
    × ((types : Table) → row types l.row.items ++ expressions_of_items (map (view_of_initial types) l.left)
    ≡ row types l.fn.row.items ++ expressions_of_items (map (view_of_initial types) l.fn.initials))

abbrev pub decreases-list_initials-loop-initial : goal.decreases-list_initials-loop-initial
decreases-list_initials-loop-initial l = length l.left
