-- Steps of reading, as the functions of the code take them.
--     with_row put trees wanted      these trees before the others
--     clause_of source parts stop names at      an expression that may be absent, where a symbol follows
use Rattle.std.specs.Prelude.{ℕ, ◌+◌, max, List, [], ◌∷◌, ◌++◌, map, Option, Some, option_map}
use Rattle.dm_syn.specs.declared.declared.Declared.{Declared}
use Rattle.dm_syn.specs.declared.symbol.Symbol.{Symbol}
use Rattle.dm_syn.specs.declared.symbol.Symbol.TheVariants as symbol
use Rattle.dm_syn.specs.Sources.{Source}
use Rattle.dm_syn.specs.declared.declaration.Parameter.{Parameter}
use Rattle.dm_syn.specs.Trees.{Expr, Parameters, Initialiser, Initialisers, Item, Specifiers, Declaration, ForStart, Stmt, SwitchItem}
use Rattle.dm_syn.specs.Views as view
use Rattle.dm_syn.specs.Spans.{specifiers_span, initialisers_after, items_after}
use Rattle.dm_syn.specs.Scopes.{optional_declares, start_declares}
use Rattle.dm_syn.specs.Heights.{optional_height, start_height}
use Rattle.dm_syn.specs.Statements.{optional_after, start_after}
use Rattle.dm_pexpr.specs.Parsing.{Parts, where_true, and_then}
use Rattle.dm_pstmt.specs.Parsing.{Within, stands, optional_of, braces_closed, declaration_closed, default_behind, start_of, for_body}

-- trees that come before others in a list of them, to which one is put by a function
abbrev pub with_row : {T L : Type 0} → (T → L → L) → List T → Option L → Option L
with_row put [] wanted = wanted
with_row put (first ∷ others) wanted = option_map (put first) (with_row put others wanted)

abbrev pub with_item : Item → List Item → List Item
with_item first others = first ∷ others

-- the braces round initialisers from a place on, behind which these names are in scope
abbrev pub braces_round : Source → List Declared → ℕ → ℕ → Initialisers → Option Initialiser
braces_round source names at start items =
    braces_closed source names at items (initialisers_after start items) (stands source names (initialisers_after start items) symbol.Comma)

-- the declaration of items, behind which these names are in scope
abbrev pub declared_behind : Source → List Declared → ℕ → Specifiers → List Item → Option Declaration
declared_behind source names at specifiers items = declaration_closed source names at specifiers items (items_after (specifiers_span specifiers).after items)

-- an expression that may be absent, where a symbol follows
abbrev pub closed_by : Source → List Declared → ℕ → Symbol → Option Expr → Option (Option Expr)
closed_by source names at stop expr = where_true (stands source (optional_declares source expr ++ names) (optional_after at expr) stop) (Some expr)

abbrev pub clause_of : Source → Parts → Symbol → List Declared → ℕ → Option (Option Expr)
clause_of source parts stop names at = and_then (closed_by source names at stop) (optional_of source parts stop names at)

-- `:` and a labelled statement behind `default`
abbrev pub default_from : Source → Within → List Declared → ℕ → Option SwitchItem
default_from source inner names at = where_true (stands source names (at + 1) symbol.Colon) (and_then (default_behind at) (inner.labelled names (at + 2)))

-- the clauses of a `for`
pub record Clauses : Type 0 where
  pub start : ForStart
  pub condition : Option Expr
  pub step : Option Expr

abbrev pub with_step : ForStart → Option Expr → Option Expr → Clauses
with_step start condition step = record { start = start; condition = condition; step = step }

abbrev pub clauses_height : Clauses → ℕ
clauses_height clauses = max (max (start_height clauses.start) (optional_height clauses.condition)) (optional_height clauses.step)

-- where they and the closing parenthesis end, where they begin at a place
abbrev pub clauses_after : ℕ → Clauses → ℕ
clauses_after at clauses = optional_after (optional_after (start_after at clauses.start) clauses.condition + 1) clauses.step + 1

abbrev pub clauses_declare : Source → Clauses → List Declared
clauses_declare source clauses = optional_declares source clauses.step ++ (optional_declares source clauses.condition ++ start_declares source clauses.start)

-- the clauses from a place on, with the closing parenthesis
abbrev pub behind_condition : Source → Within → List Declared → ForStart → ℕ → Option Expr → Option Clauses
behind_condition source inner names start at condition =
    option_map (with_step start condition) (clause_of source inner.parts symbol.RightParen (optional_declares source condition ++ names) (optional_after at condition + 1))

abbrev pub behind_start : Source → Within → List Declared → ℕ → ForStart → Option Clauses
behind_start source inner names at start =
    and_then (behind_condition source inner (start_declares source start ++ names) start (start_after at start))
    (clause_of source inner.parts symbol.Semicolon (start_declares source start ++ names) (start_after at start))

unfoldable pub clauses_of : Source → Within → List Declared → ℕ → Option Clauses
clauses_of source inner names at = and_then (behind_start source inner names at) (start_of source inner names at)

-- the `for` with these clauses and a body
abbrev pub looping_over : ℕ → Clauses → Stmt → Option Stmt
looping_over at clauses body = for_body at clauses.start clauses.condition clauses.step body

-- what parameters of the code stand for, if there are some
abbrev pub seen_parameters : Option (List Parameter) → Option Parameters
seen_parameters = option_map (λ those. view.parameters (map view.parameter those))
