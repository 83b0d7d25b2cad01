-- The token is in one of the initialisers where it is in one of those that are left, and these are no deeper.
use Rattle.std.proofs.Common.{◌≡◌, map, ◌+◌, ◌*◌, ◌≤◌, length}
use Rattle.std.specs.List.{list_any}
use denote.Param.Weighed.{most}
use Rattle.dm_type.specs.Tables.{Table}
use Rattle.dm_tree.specs.declared.tree.Initial.{size-Initial}
use Rattle.dm_tree.specs.Views.{expressions_of_items}
use Rattle.dm_meaning.specs.Wholes.{view_of_initial}
use Rattle.dm_effect.specs.Safe.{holds}
use Rattle.dm_effect.proofs.declarators.+token.Given as goal

abbrev pub decreases-in_initial : goal.decreases-in_initial
decreases-in_initial l = 2 * size-Initial l.initial.now

abbrev pub decreases-in_initials : goal.decreases-in_initials
decreases-in_initials l = 2 * most size-Initial l.initials.now + 1

abbrev pub invariant-in_initials-loop-initial : goal.invariant-in_initials-loop-initial
invariant-in_initials-loop-initial l =
    (most size-Initial l.left ≤ most size-Initial l.fn.initials)
    × ((types : Table) → list_any (holds l.token) (expressions_of_items (map (view_of_initial types) l.left)) ≡ list_any (holds l.token) (expressions_of_items (map (view_of_initial types) l.fn.initials)))

abbrev pub decreases-in_initials-loop-initial : goal.decreases-in_initials-loop-initial
decreases-in_initials-loop-initial l = length l.left
