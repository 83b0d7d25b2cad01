-- The part stands among the initialisers that are left, and these are no deeper.
use Rattle.std.proofs.Common.{◌≡◌, ◌++◌, map, List, ◌+◌, ◌*◌, ◌≤◌, length}
use denote.Param.Weighed.{most}
use Rattle.dm_type.specs.Tables.{Table}
use Rattle.dm_tree.specs.declared.tree.Initial.{size-Initial}
use Rattle.dm_tree.specs.Paths.{tree_in}
use Rattle.dm_tree.specs.Trees.{Tree, trees}
use Rattle.dm_tree.specs.Views.{expressions_of_items}
use Rattle.dm_meaning.specs.Wholes.{view_of_initial}
use Rattle.dm_effect.proofs.parts.+initial.Given as goal

abbrev pub decreases-in_initial : goal.decreases-in_initial
decreases-in_initial l = 2 * size-Initial l.initial.now

abbrev pub decreases-in_initials : goal.decreases-in_initials
decreases-in_initials l = 2 * most size-Initial l.initials.now + 1

abbrev pub invariant-in_initials-loop-initial : goal.invariant-in_initials-loop-initial
invariant-in_initials-loop-initial l =
    (most size-Initial l.others ≤ most size-Initial l.fn.initials)
    × ((types : Table) (rest : List Tree) → tree_in (trees (expressions_of_items (map (view_of_initial types) l.fn.initials) ++ rest)) l.fn.number
    ≡ tree_in (trees (expressions_of_items (map (view_of_initial types) l.others) ++ rest)) l.left)

abbrev pub decreases-in_initials-loop-initial : goal.decreases-in_initials-loop-initial
decreases-in_initials-loop-initial l = length l.others
