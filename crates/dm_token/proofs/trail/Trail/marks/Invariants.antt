-- The marks so far stand behind those that are left, in the other order.
use Rattle.std.proofs.Common.{◌≡◌, ◌++◌, reverse}
use Rattle.dm_token.proofs.trail.Trail.marks.Given as goal

abbrev pub invariant-loop-node : goal.invariant-loop-node
invariant-loop-node l = l.self ≡ l.trail ++ reverse l.marks.items
