-- The tokens behind those that are left are found by their places.
use Rattle.std.proofs.Common.{◌≡◌, ◌++◌, List, length}
use Rattle.dm_token.specs.declared.token.PpToken.{PpToken}
use Rattle.dm_runs.specs.Lookups.{AreTokens}
use Rattle.dm_runs.proofs.origins.tokens_of.Given as goal

abbrev pub invariant-loop-last : goal.invariant-loop-last
invariant-loop-last l = (behind : List PpToken) × (l.left ++ behind ≡ l.body) × AreTokens l.tokens (length l.left) behind

abbrev pub decreases-loop-last : goal.decreases-loop-last
decreases-loop-last l = length l.left
