-- What is given for a whole expression or type name.
use Rattle.std.specs.Prelude.{◌≡◌, ◌≤◌, ℕ, List, [], length}
use Rattle.dm_token.specs.declared.token.CToken.{CToken}
use Rattle.dm_syn.specs.declared.expression.Expr.{Expr}
use Rattle.dm_syn.specs.declared.declaration.TypeName.{TypeName}
use Rattle.dm_syn.specs.Sources.{Source}
use Rattle.dm_syn.specs.Spans.{expr_span, type_name_span}
use Rattle.dm_syn.specs.Views as view
use Rattle.dm_pexpr.specs.NameMaps.{NameMap, is_type}
use Rattle.dm_pexpr.specs.Readings.{IsExpression, IsClosedName}

-- the tokens, where these names are known
abbrev pub source_with : List CToken → NameMap → Source
source_with tokens names = record { tokens = tokens; outer = is_type names }

-- A well-formed expression that begins there and that what follows it closes, and where it ends: the tokens from the place up to
-- there are its yield.
pub record IsExpressionFound (source : Source) (at : ℕ) (found : Expr × ℕ) : Type 0 where
  pub formed : IsExpression source [] at (view.expr found.0)
  pub ends : found.1 ≡ (expr_span (view.expr found.0)).after
  pub onward : at ≤ found.1
  pub within : found.1 ≤ length source.tokens

-- and likewise a type name
pub record IsNameFound (source : Source) (at : ℕ) (found : TypeName × ℕ) : Type 0 where
  pub formed : IsClosedName source [] at (view.type_name found.0)
  pub ends : found.1 ≡ (type_name_span (view.type_name found.0)).after
  pub onward : at ≤ found.1
  pub within : found.1 ≤ length source.tokens
