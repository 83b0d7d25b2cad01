use Rattle.std.proofs.Common.{◌≡◌, List, length}
use Rattle.dm_token.specs.declared.token.CToken.{CToken}
use Rattle.dm_syn.specs.Trees.{External}
use Rattle.dm_pexpr.specs.NameMaps.{NameMap}
use Rattle.dm_reading.proofs.SyntaxLemmas.{Beside, same, first-goes-on, second-goes-on, beside, none-at-the-end}
use Rattle.dm_reading.proofs.laws.one_syntax.Goals as goal

from : (tokens : List CToken) (a b : List External) (known others : NameMap) → Beside tokens a b (length tokens) (length tokens) known others → a ≡ b
from tokens a b known others (same e f) = e
from tokens a b known others (first-goes-on it is) = absurd (none-at-the-end tokens others it is)
from tokens a b known others (second-goes-on it is) = absurd (none-at-the-end tokens known it is)

pub returns : goal.returns
returns c tokens a b first second = from tokens a b first.0 second.0 (beside tokens _ 0 a b (length tokens) (length tokens) first.0 second.0 first.1 second.1)
