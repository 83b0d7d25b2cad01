use Rattle.std.proofs.Common.{◌≡◌, take}
use Rattle.dm_route.proofs.joining.shared_front.Given as goal

abbrev pub invariant-loop-index : goal.invariant-loop-index
invariant-loop-index l = take l.index l.left ≡ take l.index l.right
