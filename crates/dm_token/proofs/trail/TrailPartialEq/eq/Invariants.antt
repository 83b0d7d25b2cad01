-- What is left of the trails is of one length, and decides whether they are equal.
use Rattle.std.proofs.Common.{◌≡◌, length}
use Rattle.dm_token.specs.Equal.{equal}
use Rattle.dm_token.proofs.trail.TrailPartialEq.eq.Given as goal

abbrev pub invariant-loop-mine : goal.invariant-loop-mine
invariant-loop-mine l = record {
  level : length l.left ≡ length l.right;
  decides : equal l.self l.other ≡ equal l.left l.right;
}
