-- The map has the first positions among the uses that are done, which are the last ones.
use Rattle.std.proofs.Common.{◌≡◌, ◌++◌, List, length}
use Rattle.dm_token.specs.declared.unit.Use.{Use}
use Rattle.dm_mentions.specs.Mentions.{is_use}
use Rattle.dm_mentions.proofs.PositionLemmas.{Finds}
use Rattle.dm_mentions.proofs.places.first_uses.Given as goal

abbrev pub invariant-loop-last : goal.invariant-loop-last
invariant-loop-last l = (behind : List Use) × (l.left ++ behind ≡ l.uses) × Finds is_use (length l.left) behind l.found

abbrev pub decreases-loop-last : goal.decreases-loop-last
decreases-loop-last l = length l.left
