-- What is left to put stands before what is put.
use Rattle.std.proofs.Common.{◌≡◌, ◌++◌, length, reverse}
use Rattle.dm_type.proofs.declarator.Declarator.put_before.Given as goal

abbrev pub invariant-loop-last : goal.invariant-loop-last
invariant-loop-last l = l.left ++ (reverse l.self-inside.front.items ++ l.self-inside.back.items) ≡ l.fn.bytes ++ l.fn.self

abbrev pub decreases-loop-last : goal.decreases-loop-last
decreases-loop-last l = length l.left
