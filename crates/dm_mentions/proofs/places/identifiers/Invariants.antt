-- The map has the first positions among the tokens that are done, which are the last ones.
use Rattle.std.proofs.Common.{◌≡◌, ◌++◌, List, length}
use Rattle.dm_token.specs.declared.token.Token.{Token}
use Rattle.dm_mentions.specs.Mentions.{is_mention}
use Rattle.dm_mentions.proofs.PositionLemmas.{Finds}
use Rattle.dm_mentions.proofs.places.identifiers.Given as goal

abbrev pub invariant-loop-last : goal.invariant-loop-last
invariant-loop-last l = (behind : List Token) × (l.left ++ behind ≡ l.tokens) × Finds is_mention (length l.left) behind l.found

abbrev pub decreases-loop-last : goal.decreases-loop-last
decreases-loop-last l = length l.left
