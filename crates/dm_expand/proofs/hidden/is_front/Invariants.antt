use Rattle.std.proofs.Common.{◌≡◌, take, IsTrue}
use Rattle.dm_expand.proofs.hidden.is_front.Given as goal

abbrev pub invariant-loop-index : goal.invariant-loop-index
invariant-loop-index l = IsTrue l.same → take l.index l.front ≡ take l.index l.numbers
