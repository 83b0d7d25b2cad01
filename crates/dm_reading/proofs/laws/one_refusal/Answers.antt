use Rattle.std.proofs.Common.{◌≡◌, ℕ, List}
use Rattle.dm_token.specs.declared.token.CToken.{CToken}
use Rattle.dm_reading.specs.Syntax.{IsRefusedAt}
use Rattle.dm_reading.proofs.SyntaxLemmas.{Beside, same, first-goes-on, second-goes-on, beside}
use Rattle.dm_reading.proofs.laws.one_refusal.Goals as goal

from : (tokens : List CToken) (a b : ℕ) (first : IsRefusedAt tokens a) (second : IsRefusedAt tokens b) → Beside tokens first.before second.before a b first.known second.known → a ≡ b
from tokens a b first second (same e f) = f
from tokens a b first second (first-goes-on it is) = absurd (second.none it is)
from tokens a b first second (second-goes-on it is) = absurd (first.none it is)

pub returns : goal.returns
returns c tokens a b first second = from tokens a b first second (beside tokens _ 0 first.before second.before a b first.known second.known first.stand second.stand)
