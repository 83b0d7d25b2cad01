-- The tokens that trees are read from, and what identifiers name there.
--     symbol_at source at      the terminal symbol of the token at a position, where an identifier counts as one that names no type
--     symbol_in source names at      the same where these declarations are in scope
use Rattle.std.specs.Prelude.{ℕ, Bool, List, [], ◌∷◌, Option, Some, None, slice_get, bytes_eq, if◌then◌else◌}
use Rattle.dm_token.specs.declared.token.CToken.{CToken}
use Rattle.dm_syn.specs.declared.symbol.Symbol.{Symbol}
use Rattle.dm_syn.specs.declared.symbol.Symbol.TheVariants as symbol
use Rattle.dm_syn.specs.declared.declared.Declared.{Declared}
use Rattle.dm_syn.specs.Symbols.{symbol_of}

-- the tokens, and whether a name that isn't declared among them names a type
pub record Source : Type 0 where
  pub tokens : List CToken
  pub outer : List ℕ → Bool

abbrev pub symbol_of_token : Option CToken → Symbol
symbol_of_token None = symbol.End
symbol_of_token (Some token) = symbol_of token.class

abbrev pub spelling_of_token : Option CToken → List ℕ
spelling_of_token None = []
spelling_of_token (Some token) = token.spelling

-- the terminal symbol of the token at a position, where an identifier counts as one that names no type
unfoldable pub symbol_at : Source → ℕ → Symbol
symbol_at source at = symbol_of_token (slice_get source.tokens at)

-- its spelling
unfoldable pub spelling_at : Source → ℕ → List ℕ
spelling_at source at = spelling_of_token (slice_get source.tokens at)

-- whether a name names a type, where these declarations are in scope, the latest first (6.2.1)
unfoldable pub names_type : Source → List Declared → List ℕ → Bool
names_type source [] name = source.outer name
names_type source (latest ∷ others) name =
    if bytes_eq latest.name name then latest.is_type else names_type source others name

-- what a symbol is where an identifier that stands there names a type or not
abbrev pub seen_as : Symbol → Bool → Symbol
seen_as symbol.Identifier names_type = if names_type then symbol.TypedefName else symbol.Identifier
seen_as it names_type = it

-- the terminal symbol of the token at a position, where these declarations are in scope
unfoldable pub symbol_in : Source → List Declared → ℕ → Symbol
symbol_in source names at = seen_as (symbol_at source at) (names_type source names (spelling_at source at))
