use Rattle.std.proofs.Common.{ℕ, List, length, arith}
use Rattle.dm_token.specs.declared.token.CToken.{CToken}
use Rattle.dm_syn.specs.Trees.{External}
use Rattle.dm_pexpr.specs.NameMaps.{NameMap}
use Rattle.dm_reading.specs.Syntax.{IsRefusedAt}
use Rattle.dm_reading.proofs.SyntaxLemmas.{Beside, same, first-goes-on, second-goes-on, beside, none-at-the-end}
use Rattle.dm_reading.proofs.laws.no_refusal_of_syntax.Goals as goal

from : (tokens : List CToken) (externals : List External) (known : NameMap) (at : ℕ) (refused : IsRefusedAt tokens at) → Beside tokens externals refused.before (length tokens) at known refused.known → ⊥
from tokens externals known at refused (same e f) = let w = refused.within in omega (arith, f, w)
from tokens externals known at refused (first-goes-on it is) = refused.none it is
from tokens externals known at refused (second-goes-on it is) = none-at-the-end tokens known it is

pub returns : goal.returns
returns c tokens externals at has refused = from tokens externals has.0 at refused (beside tokens _ 0 externals refused.before (length tokens) at has.0 refused.known has.1 refused.stand)
