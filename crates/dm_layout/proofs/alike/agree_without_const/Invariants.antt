-- What is left to compare compares as the two types do.
use Rattle.std.proofs.Common.{◌≡◌, ◌+◌}
use Rattle.dm_type.specs.Tables.{IsId, type_of}
use Rattle.dm_meaning.specs.Objects.{agree_without_const}
use Rattle.dm_layout.proofs.alike.agree_without_const.Given as goal

abbrev pub invariant-loop-answer : goal.invariant-loop-answer
invariant-loop-answer l =
    IsId l.types l.left
    × IsId l.types l.right
    × (agree_without_const (type_of l.types l.left) (type_of l.types l.right) ≡ agree_without_const (type_of l.fn.types l.fn.a) (type_of l.fn.types l.fn.b))

abbrev pub decreases-loop-answer : goal.decreases-loop-answer
decreases-loop-answer l = l.left + l.right
