-- What is left of the other's front stands behind what is put.
use Rattle.std.proofs.Common.{◌≡◌, ◌++◌, length, reverse}
use Rattle.dm_type.proofs.declarator.Declarator.join.Given as goal

abbrev pub invariant-loop-byte : goal.invariant-loop-byte
invariant-loop-byte l =
    (reverse l.self-inside.front.items ++ l.self-inside.back.items) ++ (reverse l.front.items ++ l.back.items) ≡ l.fn.self ++ l.fn.other

abbrev pub decreases-loop-byte : goal.decreases-loop-byte
decreases-loop-byte l = length l.front.items
