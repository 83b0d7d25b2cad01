-- The beginnings that are left, and behind them those that were found.
use Rattle.std.proofs.Common.{◌≡◌, ◌≤◌, ◌++◌, length, map, reverse}
use Rattle.dm_runs.specs.Beginnings.{beginnings_of}
use Rattle.dm_runs.proofs.beginnings.lineage.Given as goal

abbrev pub invariant-loop-rest : goal.invariant-loop-rest
invariant-loop-rest l = record {
  within : l.shared ≤ length l.rest;
  found : beginnings_of l.trail ≡ beginnings_of l.rest ++ reverse (map (λ one. one.now) l.found.items);
}

abbrev pub decreases-loop-rest : goal.decreases-loop-rest
decreases-loop-rest l = length l.rest
