-- The expansions behind those that are left are found by their numbers.
use Rattle.std.proofs.Common.{◌≡◌, ◌++◌, List, length}
use Rattle.dm_token.specs.declared.expansion.Expansion.{Expansion}
use Rattle.dm_runs.specs.Lookups.{AreNames}
use Rattle.dm_runs.proofs.names.Names.of.Given as goal

abbrev pub invariant-loop-last : goal.invariant-loop-last
invariant-loop-last l = (behind : List Expansion) × (l.left ++ behind ≡ l.expansions) × AreNames l.by_number behind

abbrev pub decreases-loop-last : goal.decreases-loop-last
decreases-loop-last l = length l.left
