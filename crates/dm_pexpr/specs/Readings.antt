-- The expressions and type names that stand at a place.
--     IsExpression source names at expr      a well-formed expression begins there, and what follows it closes it
--     IsClosedName source names at name      and likewise a type name
--     expression_at source names at      the expression that reading from left to right gives there
--     type_name_at source names at      and likewise a type name
use Rattle.std.specs.Prelude.{◌≡◌, ◌≤◌, ℕ, Bool, true, false, ◌&&◌, nat_le, List, ◌++◌, IsTrue, Option, Some, None, if◌then◌else◌}
use Rattle.dm_token.specs.Limits.{greatest_height}
use Rattle.dm_syn.specs.declared.declared.Declared.{Declared}
use Rattle.dm_syn.specs.declared.symbol.Symbol.{Symbol}
use Rattle.dm_syn.specs.declared.symbol.Symbol.TheVariants as symbol
use Rattle.dm_syn.specs.Sources.{Source, symbol_in}
use Rattle.dm_syn.specs.Trees.{Expr, TypeName}
use Rattle.dm_syn.specs.Spans.{expr_span, type_name_span}
use Rattle.dm_syn.specs.Scopes.{expr_declares, type_name_declares}
use Rattle.dm_syn.specs.Heights.{expr_height, type_name_height}
use Rattle.dm_syn.specs.Grammar.{IsExpr, IsTypeName}
use Rattle.dm_pexpr.specs.Parsing.{lower, type_name_of}

-- what may follow a whole expression: `) ] } : ;` or the end
abbrev pub closes_expression : Symbol → Bool
closes_expression symbol.RightParen = true
closes_expression symbol.RightBracket = true
closes_expression symbol.RightBrace = true
closes_expression symbol.Colon = true
closes_expression symbol.Semicolon = true
closes_expression symbol.End = true
closes_expression _ = false

-- what may follow a whole type name: `)` or the end
abbrev pub closes_type_name : Symbol → Bool
closes_type_name symbol.RightParen = true
closes_type_name symbol.End = true
closes_type_name _ = false

-- a well-formed expression with a height of at most `greatest_height` that begins there and is closed by what follows it
pub record IsExpression (source : Source) (names : List Declared) (at : ℕ) (expr : Expr) : Type 0 where
  pub formed : IsExpr source names expr
  pub begins : (expr_span expr).first ≡ at
  pub low : expr_height expr ≤ greatest_height
  pub closed : IsTrue (closes_expression (symbol_in source (expr_declares source expr ++ names) (expr_span expr).after))

-- a well-formed type name with a height of at most `greatest_height` that begins there and is closed by what follows it
pub record IsClosedName (source : Source) (names : List Declared) (at : ℕ) (name : TypeName) : Type 0 where
  pub formed : IsTypeName source names name
  pub begins : (type_name_span name).first ≡ at
  pub low : type_name_height name ≤ greatest_height
  pub closed : IsTrue (closes_type_name (symbol_in source (type_name_declares source name ++ names) (type_name_span name).after))

-- an expression that is read, where it is whole
abbrev pub whole_expression : Source → List Declared → Option Expr → Option Expr
whole_expression source names None = None
whole_expression source names (Some expr) =
    if nat_le (expr_height expr) greatest_height && closes_expression (symbol_in source (expr_declares source expr ++ names) (expr_span expr).after)
    then Some expr else None

-- the expression that reading from left to right gives at a place
abbrev pub expression_at : Source → List Declared → ℕ → Option Expr
expression_at source names at = whole_expression source names ((lower source greatest_height).expr 0 names at)

-- a type name that is read, where it is whole
abbrev pub whole_name : Source → List Declared → Option TypeName → Option TypeName
whole_name source names None = None
whole_name source names (Some name) =
    if nat_le (type_name_height name) greatest_height && closes_type_name (symbol_in source (type_name_declares source name ++ names) (type_name_span name).after)
    then Some name else None

-- the type name that reading from left to right gives at a place
abbrev pub type_name_at : Source → List Declared → ℕ → Option TypeName
type_name_at source names at = whole_name source names (type_name_of source (lower source greatest_height) names at)
