-- What closes an expression or a type name.
use Rattle.std.proofs.Common.{◌≡◌, ℕ, true, List, Some, refl, sym, ap, ◌∙◌, arith}
use Rattle.dm_token.specs.Limits.{greatest_height}
use Rattle.dm_syn.specs.declared.declared.Declared.{Declared}
use Rattle.dm_syn.specs.declared.symbol.Symbol.{Symbol}
use Rattle.dm_syn.specs.declared.symbol.Symbol.TheVariants as symbol
use Rattle.dm_syn.specs.Sources.{Source}
use Rattle.dm_syn.specs.Trees.{Expr, TypeName}
use Rattle.dm_pexpr.specs.Parsing.{lower, suffix_kind, no_suffix, type_name_of}
use Rattle.dm_pexpr.specs.Readings.{closes_expression, closes_type_name, IsExpression, IsClosedName}
use Rattle.dm_pexpr.proofs.SpecifierSymbols.{follows_declarator}
use Rattle.dm_pexpr.proofs.SymbolLemmas.{stops-none}
use Rattle.dm_pexpr.proofs.Declarators.{name-read}
use Rattle.dm_pexpr.proofs.Completeness.{complete}

ends-there : (it : Symbol) → closes_expression it ≡ true → suffix_kind it ≡ no_suffix
ends-there symbol.RightBracket h = refl
ends-there symbol.RightParen h = refl
ends-there symbol.RightBrace h = refl
ends-there symbol.Colon h = refl
ends-there symbol.Semicolon h = refl
ends-there symbol.End h = refl
ends-there _ h = cc

name-ends : (it : Symbol) → closes_type_name it ≡ true → follows_declarator it ≡ true
name-ends symbol.RightParen h = refl
name-ends symbol.End h = refl
name-ends _ h = cc

-- the expression at a place is the one that is read
pub expression-read : (source : Source) (names : List Declared) (at : ℕ) (it : Expr) → IsExpression source names at it → (lower source greatest_height).expr 0 names at ≡ Some it
expression-read source names at it is =
    ap ((lower source greatest_height).expr 0 names) (sym is.begins)
    ∙ (complete source greatest_height).expr 0 names it is.formed (omega arith) is.low is.low (stops-none 0 _ (ends-there _ is.closed))

-- and so is the type name
pub closed-name-read : (source : Source) (names : List Declared) (at : ℕ) (it : TypeName) → IsClosedName source names at it → type_name_of source (lower source greatest_height) names at ≡ Some it
closed-name-read source names at it is =
    ap (type_name_of source (lower source greatest_height) names) (sym is.begins)
    ∙ name-read source (lower source greatest_height) greatest_height (complete source greatest_height) names it is.formed is.low is.low (name-ends _ is.closed)
