-- What is left is the same where all are.
use Rattle.std.proofs.Common.{◌↔◌, ◌≤◌, length, ◌+◌, ◌*◌}
use denote.Param.Weighed.{most}
use Rattle.dm_type.specs.Tables.{Table}
use Rattle.dm_tree.specs.declared.tree.Initial.{size-Initial}
use Rattle.dm_agree.proofs.StepLemmas.{SameItems}
use Rattle.dm_agree.proofs.initial.+initials.Given as goal

abbrev pub decreases-is_same_initial : goal.decreases-is_same_initial
decreases-is_same_initial l = 2 * size-Initial l.new.now

abbrev pub decreases-are_same_initials : goal.decreases-are_same_initials
decreases-are_same_initials l = 2 * most size-Initial l.new.now + 1

abbrev pub invariant-are_same_initials-loop-initial : goal.invariant-are_same_initials-loop-initial
invariant-are_same_initials-loop-initial l =
    (most size-Initial l.left ≤ most size-Initial l.fn.new) × ((a b : Table) → SameItems a b l.left l.others ↔ SameItems a b l.fn.new l.fn.old)

abbrev pub decreases-are_same_initials-loop-initial : goal.decreases-are_same_initials-loop-initial
decreases-are_same_initials-loop-initial l = length l.left
