-- Each comparison is of smaller numbers, and comes to what was to be compared.
use Rattle.std.proofs.Common.{◌≡◌, ◌≤◌, length, map, drop, ◌+◌, ◌*◌}
use Rattle.dm_type.specs.Tables.{type_of, IsId}
use Rattle.dm_agree.specs.SameTypes.{same_type, same_listed}
use Rattle.dm_agree.proofs.types.+comparison.Given as goal

abbrev pub decreases-compare_shapes : goal.decreases-compare_shapes
decreases-compare_shapes l = 3 * l.a + 1

abbrev pub decreases-is_same_type : goal.decreases-is_same_type
decreases-is_same_type l = 3 * l.a + 2

abbrev pub decreases-are_same_types : goal.decreases-are_same_types
decreases-are_same_types l = 3 * l.limit

abbrev pub invariant-is_same_type-loop-answer : goal.invariant-is_same_type-loop-answer
invariant-is_same_type-loop-answer l =
    (same_type (type_of l.new l.fn.a) (type_of l.old l.fn.b) ≡ same_type (type_of l.new l.left) (type_of l.old l.right))
    × IsId l.new l.left × IsId l.old l.right × (l.left ≤ l.fn.a)

abbrev pub decreases-is_same_type-loop-answer : goal.decreases-is_same_type-loop-answer
decreases-is_same_type-loop-answer l = l.left

abbrev pub invariant-are_same_types-loop-i : goal.invariant-are_same_types-loop-i
invariant-are_same_types-loop-i l =
    (same_listed (map (type_of l.new) l.parameters) (map (type_of l.old) l.others)
    ≡ same_listed (map (type_of l.new) (drop l.i l.parameters)) (map (type_of l.old) (drop l.i l.others)))
    × (length l.parameters ≡ length l.others)
