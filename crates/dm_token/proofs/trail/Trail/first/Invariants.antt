-- The trail so far is how the whole one begins, and has marks enough.
use Rattle.std.proofs.Common.{◌≤◌, length}
use Rattle.dm_token.specs.Prefixes.{IsPrefix}
use Rattle.dm_token.proofs.trail.Trail.first.Given as goal

abbrev pub invariant-loop-node : goal.invariant-loop-node
invariant-loop-node l = record {
  begins : IsPrefix l.trail l.self;
  enough : l.count ≤ length l.trail;
}
