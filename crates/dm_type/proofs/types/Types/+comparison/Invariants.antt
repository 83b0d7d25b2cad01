-- Each comparison is of smaller numbers, and comes to what was to be compared.
use Rattle.std.proofs.Common.{◌≡◌, ◌<◌, ◌≤◌, ◌&&◌, length, map, drop, ◌+◌, ◌*◌}
use Rattle.dm_type.specs.Tables.{type_of, IsId}
use Rattle.dm_type.specs.Alike.{are_compatible}
use Rattle.dm_type.specs.Comparing.{match_lists}
use Rattle.dm_type.proofs.types.Types.+comparison.Given as goal

abbrev pub decreases-compared : goal.decreases-compared
decreases-compared l = 3 * l.a + 1

abbrev pub decreases-compatible : goal.decreases-compatible
decreases-compatible l = 3 * l.a + 2

abbrev pub decreases-functions : goal.decreases-functions
decreases-functions l = 3 * l.limit

abbrev pub invariant-compatible-loop-answer : goal.invariant-compatible-loop-answer
invariant-compatible-loop-answer l =
    (are_compatible (type_of l.self l.fn.a) (type_of l.self l.fn.b) ≡ are_compatible (type_of l.self l.left) (type_of l.self l.right))
    × IsId l.self l.left × IsId l.self l.right × (l.left ≤ l.fn.a)

abbrev pub decreases-compatible-loop-answer : goal.decreases-compatible-loop-answer
decreases-compatible-loop-answer l = l.left

abbrev pub invariant-functions-loop-i : goal.invariant-functions-loop-i
invariant-functions-loop-i l =
    ((are_compatible (type_of l.self l.fn.results.0) (type_of l.self l.fn.results.1) && match_lists (map (type_of l.self) l.parameters) (map (type_of l.self) l.others))
    ≡ (are_compatible (type_of l.self l.left) (type_of l.self l.right) && match_lists (map (type_of l.self) (drop l.i l.parameters)) (map (type_of l.self) (drop l.i l.others))))
    × (l.left < l.fn.limit) × IsId l.self l.right × (length l.parameters ≡ length l.others)
