-- The trails so far are the same, so that what is left decides.
use Rattle.std.proofs.Common.{◌≡◌}
use Rattle.dm_route.proofs.legs.are_alike.Given as goal

abbrev pub invariant-loop-one : goal.invariant-loop-one
invariant-loop-one l = l.mine ≡ l.theirs → l.left ≡ l.right
