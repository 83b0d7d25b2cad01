-- The walk, as far as it has come.
use Rattle.dm_token.proofs.Walks.{IsWalked}
use Rattle.dm_token.proofs.trail.Trail.common.Given as goal

abbrev pub invariant-loop-mine : goal.invariant-loop-mine
invariant-loop-mine l = IsWalked l.self l.other l.left l.right l.common
