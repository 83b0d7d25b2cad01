-- Reading declarations, initialisers, statements and external declarations from left to right. Each tree is read by what its next token
-- is; a tree within a node is read with one less depth.
--     within source depth      what reads the parts of a node at so much depth
--     external_of source inner names at      the external declaration at a place
use Rattle.std.specs.Prelude.{ℕ, zero, suc, ◌+◌, Bool, ◌&&◌, not, List, [], ◌∷◌, ◌++◌, Option, Some, None, is_some, option_map, if◌then◌else◌}
use Rattle.dm_syn.specs.declared.declared.Declared.{Declared}
use Rattle.dm_syn.specs.declared.symbol.Symbol.{Symbol}
use Rattle.dm_syn.specs.declared.symbol.Symbol.TheVariants as symbol
use Rattle.dm_syn.specs.Symbols.{is, begins_specifiers}
use Rattle.dm_syn.specs.Sources.{Source, symbol_in}
use Rattle.dm_syn.specs.Trees.{Expr, Specifiers, Declarator, Initialiser, Initialisers, Item, Declaration, ForStart, Stmt, BlockItems, BlockItem, SwitchItems, SwitchItem, External}
use Rattle.dm_syn.specs.Trees as tree
use Rattle.dm_syn.specs.Spans.{expr_span, specifiers_span, declarator_span, initialiser_span, initialisers_after, item_span, items_after, declaration_span, stmt_span, block_item_span, block_items_after, switch_item_span, switch_items_after}
use Rattle.dm_syn.specs.Scopes.{expr_declares, specifiers_declares, named_declares, initialiser_declares, initialisers_declares, item_declares, items_declares, defines_types, optional_declares, start_declares, block_item_declares, switch_item_declares}
use Rattle.dm_syn.specs.Heights.{initialiser_height, declaration_height, stmt_height, switch_item_height, height_of}
use Rattle.dm_syn.specs.Grammar.{trailing_after}
use Rattle.dm_syn.specs.Statements.{optional_after, start_after, own_parameters, body_declares}
use Rattle.dm_pexpr.specs.Parsing.{Parts, named, span_of, checked, where_true, all_turns, and_then, lower}

-- what reads a tree of some kind, by the names in scope and the place
abbrev pub Reads : Type 0 → Type 0
Reads A = List Declared → ℕ → Option A

-- what reads the parts of a node
pub record Within : Type 0 where
  pub parts : Parts
  pub initialiser : Reads Initialiser
  pub stmt : Reads Stmt
  pub labelled : Reads SwitchItem

-- whether a symbol stands at a place
abbrev pub stands : Source → List Declared → ℕ → Symbol → Bool
stands source names at it = is (symbol_in source names at) it

-- initialisers
abbrev pub checked_initialiser : Initialiser → Option Initialiser
checked_initialiser initialiser = checked (initialiser_height initialiser) initialiser

-- each behind a comma that no closing brace follows
unfoldable pub more_initialisers : Source → Reads Initialiser → ℕ → List Declared → ℕ → Option Initialisers
more_initialisers source read zero names at = Some tree.no_initialisers
more_initialisers source read (suc turns) names at =
    if stands source names at symbol.Comma && not (stands source names (at + 1) symbol.RightBrace)
    then and_then
    (λ first. option_map (tree.more_initialisers first) (more_initialisers source read turns (initialiser_declares source first ++ names) (initialiser_span first).after))
    (read names (at + 1))
    else Some tree.no_initialisers

-- the closing brace, with a comma before it or without
abbrev pub braces_closed : Source → List Declared → ℕ → Initialisers → ℕ → Bool → Option Initialiser
braces_closed source names at initialisers inside trailing =
    where_true (stands source names (trailing_after inside trailing) symbol.RightBrace)
    (checked_initialiser (tree.braces (span_of at (trailing_after inside trailing + 1)) initialisers trailing))

abbrev pub braces_with : Source → List Declared → ℕ → Initialiser → Initialisers → Option Initialiser
braces_with source names at first others =
    braces_closed source (initialisers_declares source others ++ names) at (tree.more_initialisers first others) (initialisers_after (initialiser_span first).after others)
    (stands source (initialisers_declares source others ++ names) (initialisers_after (initialiser_span first).after others) symbol.Comma)

abbrev pub braces_from : Source → Reads Initialiser → List Declared → ℕ → Initialiser → Option Initialiser
braces_from source read names at first =
    and_then (braces_with source (initialiser_declares source first ++ names) at first)
    (more_initialisers source read (all_turns source) (initialiser_declares source first ++ names) (initialiser_span first).after)

abbrev pub valued : ℕ → Expr → Initialiser
valued at expr = tree.value (span_of at (expr_span expr).after) expr

-- the initialiser at a place
unfoldable pub initialiser_of : Source → ℕ → List Declared → ℕ → Option Initialiser
initialiser_of source zero names at = None
initialiser_of source (suc depth) names at =
    if stands source names at symbol.LeftBrace
    then and_then (braces_from source (initialiser_of source depth) names at) (initialiser_of source depth names (at + 1))
    else option_map (valued at) ((lower source (suc depth)).expr 1 names at)

-- a declarator with its initialiser, if it has one, behind specifiers with `typedef` or without
abbrev pub initialised : ℕ → Declarator → Initialiser → Item
initialised at declarator initialiser = tree.initialised (span_of at (initialiser_span initialiser).after) declarator initialiser

abbrev pub item_behind : Source → Within → Bool → List Declared → ℕ → Declarator → Option Item
item_behind source inner is_type names at declarator =
    if stands source (named_declares source is_type declarator ++ names) (declarator_span declarator).after symbol.Equals
    then option_map (initialised at declarator)
    (inner.initialiser (named_declares source is_type declarator ++ names) ((declarator_span declarator).after + 1))
    else Some (tree.plain (span_of at (declarator_span declarator).after) declarator)

unfoldable pub item_of : Source → Within → Bool → List Declared → ℕ → Option Item
item_of source inner is_type names at = and_then (item_behind source inner is_type names at) (inner.parts.declarator named names at)

-- each behind a comma
unfoldable pub more_items : Source → Within → Bool → ℕ → List Declared → ℕ → Option (List Item)
more_items source inner is_type zero names at = Some []
more_items source inner is_type (suc turns) names at =
    if stands source names at symbol.Comma
    then and_then (λ first. option_map (λ others. first ∷ others) (more_items source inner is_type turns (item_declares source is_type first ++ names) (item_span first).after))
    (item_of source inner is_type names (at + 1))
    else Some []

-- declarations
abbrev pub checked_declaration : Declaration → Option Declaration
checked_declaration declaration = checked (declaration_height declaration) declaration

abbrev pub declaration_closed : Source → List Declared → ℕ → Specifiers → List Item → ℕ → Option Declaration
declaration_closed source names at specifiers items inside =
    where_true (stands source names inside symbol.Semicolon) (checked_declaration (tree.declaring (span_of at (inside + 1)) specifiers items))

abbrev pub declaration_rest : Source → List Declared → ℕ → Specifiers → Item → List Item → Option Declaration
declaration_rest source names at specifiers first others =
    declaration_closed source (items_declares source (defines_types source specifiers) others ++ names) at specifiers (first ∷ others) (items_after (item_span first).after others)

abbrev pub declaration_with : Source → Within → List Declared → ℕ → Specifiers → Item → Option Declaration
declaration_with source inner names at specifiers first =
    and_then (declaration_rest source (item_declares source (defines_types source specifiers) first ++ names) at specifiers first)
    (more_items source inner (defines_types source specifiers) (all_turns source) (item_declares source (defines_types source specifiers) first ++ names) (item_span first).after)

-- what stands behind specifiers, where these names are in scope behind them
abbrev pub declaration_behind : Source → Within → List Declared → ℕ → Specifiers → Option Declaration
declaration_behind source inner names at specifiers =
    if stands source names (specifiers_span specifiers).after symbol.Semicolon
    then declaration_closed source names at specifiers [] (specifiers_span specifiers).after
    else and_then (declaration_with source inner names at specifiers) (item_of source inner (defines_types source specifiers) names (specifiers_span specifiers).after)

-- the declaration at a place
unfoldable pub declaration_of : Source → Within → List Declared → ℕ → Option Declaration
declaration_of source inner names at =
    and_then (λ specifiers. declaration_behind source inner (specifiers_declares source specifiers ++ names) at specifiers) (inner.parts.specifiers names at)

-- an expression that may be absent, up to a symbol
unfoldable pub optional_of : Source → Parts → Symbol → List Declared → ℕ → Option (Option Expr)
optional_of source parts stop names at = if stands source names at stop then Some None else option_map Some (parts.expr 0 names at)

-- `(` expression `)`
abbrev pub enclosed_by : Source → List Declared → Expr → Option Expr
enclosed_by source names inside = where_true (stands source (expr_declares source inside ++ names) (expr_span inside).after symbol.RightParen) (Some inside)

unfoldable pub enclosed_of : Source → Parts → List Declared → ℕ → Option Expr
enclosed_of source parts names at = where_true (stands source names at symbol.LeftParen) (and_then (enclosed_by source names) (parts.expr 0 names (at + 1)))

-- statements
abbrev pub checked_stmt : Stmt → Option Stmt
checked_stmt stmt = checked (stmt_height stmt) stmt

-- an expression statement
abbrev pub expression_with : Source → List Declared → ℕ → Option Expr → Option Stmt
expression_with source names at expr =
    where_true (stands source (optional_declares source expr ++ names) (optional_after at expr) symbol.Semicolon)
    (checked_stmt (tree.expression (span_of at (optional_after at expr + 1)) expr))

abbrev pub return_with : Source → List Declared → ℕ → Option Expr → Option Stmt
return_with source names at expr =
    where_true (stands source (optional_declares source expr ++ names) (optional_after (at + 1) expr) symbol.Semicolon)
    (checked_stmt (tree.return (span_of at (optional_after (at + 1) expr + 1)) expr))

-- blocks
unfoldable pub block_item_of : Source → Within → List Declared → ℕ → Option BlockItem
block_item_of source inner names at =
    if begins_specifiers (symbol_in source names at) then option_map tree.declared_item (declaration_of source inner names at)
    else option_map tree.stated_item (inner.stmt names at)

-- up to the closing brace
unfoldable pub block_items : Source → Within → ℕ → List Declared → ℕ → Option BlockItems
block_items source inner zero names at = None
block_items source inner (suc turns) names at =
    if stands source names at symbol.RightBrace then Some tree.no_items
    else and_then (λ first. option_map (tree.more_items first) (block_items source inner turns (block_item_declares source first ++ names) (block_item_span first).after))
    (block_item_of source inner names at)

abbrev pub block_with : ℕ → BlockItems → Option Stmt
block_with at items = checked_stmt (tree.block (span_of at (block_items_after (at + 1) items + 1)) items)

-- `if`, where an `else` belongs to the nearest
abbrev pub else_with : ℕ → Expr → Stmt → Stmt → Option Stmt
else_with at condition body other = checked_stmt (tree.if_else (span_of at (stmt_span other).after) condition body other)

abbrev pub if_only_behind : ℕ → Expr → Stmt → Option Stmt
if_only_behind at condition body = checked_stmt (tree.if_only (span_of at (stmt_span body).after) condition body)

abbrev pub if_behind : Source → Within → List Declared → ℕ → Expr → Stmt → Option Stmt
if_behind source inner names at condition body =
    if stands source names (stmt_span body).after symbol.Else
    then and_then (else_with at condition body) (inner.stmt (expr_declares source condition ++ names) ((stmt_span body).after + 1))
    else if_only_behind at condition body

abbrev pub if_with : Source → Within → List Declared → ℕ → Expr → Option Stmt
if_with source inner names at condition =
    and_then (if_behind source inner names at condition) (inner.stmt (expr_declares source condition ++ names) ((expr_span condition).after + 1))

-- `switch`, with what stands in its braces, up to the closing one
unfoldable pub switch_items : Source → Within → ℕ → List Declared → ℕ → Option SwitchItems
switch_items source inner zero names at = None
switch_items source inner (suc turns) names at =
    if stands source names at symbol.RightBrace then Some tree.no_switch_items
    else and_then
    (λ first. option_map (tree.more_switch_items first) (switch_items source inner turns (switch_item_declares source first ++ names) (switch_item_span first).after))
    (inner.labelled names at)

abbrev pub switch_braced : ℕ → Expr → SwitchItems → Option Stmt
switch_braced at subject items = checked_stmt (tree.switch (span_of at (switch_items_after ((expr_span subject).after + 2) items + 1)) subject items)

abbrev pub switch_with : Source → Within → List Declared → ℕ → Expr → Option Stmt
switch_with source inner names at subject =
    where_true (stands source names ((expr_span subject).after + 1) symbol.LeftBrace)
    (and_then (switch_braced at subject) (switch_items source inner (all_turns source) (expr_declares source subject ++ names) ((expr_span subject).after + 2)))

abbrev pub while_behind : ℕ → Expr → Stmt → Option Stmt
while_behind at condition body = checked_stmt (tree.while (span_of at (stmt_span body).after) condition body)

abbrev pub while_with : Source → Within → List Declared → ℕ → Expr → Option Stmt
while_with source inner names at condition =
    and_then (while_behind at condition) (inner.stmt (expr_declares source condition ++ names) ((expr_span condition).after + 1))

abbrev pub do_behind : Source → List Declared → ℕ → Stmt → Expr → Option Stmt
do_behind source names at body condition =
    where_true (stands source names ((expr_span condition).after + 1) symbol.Semicolon)
    (checked_stmt (tree.do_while (span_of at ((expr_span condition).after + 2)) body condition))

abbrev pub do_with : Source → Within → List Declared → ℕ → Stmt → Option Stmt
do_with source inner names at body =
    where_true (stands source names (stmt_span body).after symbol.While)
    (and_then (do_behind source names at body) (enclosed_of source inner.parts names ((stmt_span body).after + 1)))

-- the first clause of a `for`, with its semicolon
abbrev pub start_with : Source → List Declared → ℕ → Option Expr → Option ForStart
start_with source names at expr =
    where_true (stands source (optional_declares source expr ++ names) (optional_after at expr) symbol.Semicolon) (Some (tree.evaluates expr))

unfoldable pub start_of : Source → Within → List Declared → ℕ → Option ForStart
start_of source inner names at =
    if begins_specifiers (symbol_in source names at) then option_map tree.declares (declaration_of source inner names at)
    else and_then (start_with source names at) (optional_of source inner.parts symbol.Semicolon names at)

abbrev pub for_body : ℕ → ForStart → Option Expr → Option Expr → Stmt → Option Stmt
for_body at start condition step body = checked_stmt (tree.for_loop (span_of at (stmt_span body).after) start condition step body)

-- behind its third clause, which ends at a place
abbrev pub for_step : Source → Within → List Declared → ℕ → ForStart → Option Expr → ℕ → Option Expr → Option Stmt
for_step source inner names at start condition place step =
    where_true (stands source names (optional_after place step) symbol.RightParen)
    (and_then (for_body at start condition step)
    (inner.stmt (optional_declares source step ++ (optional_declares source condition ++ (start_declares source start ++ names))) (optional_after place step + 1)))

-- behind its second clause
abbrev pub for_condition : Source → Within → List Declared → ℕ → ForStart → ℕ → Option Expr → Option Stmt
for_condition source inner names at start place condition =
    where_true (stands source names (optional_after place condition) symbol.Semicolon)
    (and_then (for_step source inner names at start condition (optional_after place condition + 1))
    (optional_of source inner.parts symbol.RightParen (optional_declares source condition ++ (start_declares source start ++ names)) (optional_after place condition + 1)))

abbrev pub for_start : Source → Within → List Declared → ℕ → ForStart → Option Stmt
for_start source inner names at start =
    and_then (for_condition source inner names at start (start_after (at + 2) start))
    (optional_of source inner.parts symbol.Semicolon (start_declares source start ++ names) (start_after (at + 2) start))

-- `break` and `continue`
abbrev pub jump : Source → List Declared → ℕ → Stmt → Option Stmt
jump source names at stmt = where_true (stands source names (at + 1) symbol.Semicolon) (checked_stmt stmt)

-- what a statement that begins with a symbol is
pub data Lead : Type 0 where
  opening : Lead
  choosing : Lead
  switching : Lead
  repeating : Lead
  doing : Lead
  looping : Lead
  breaking : Lead
  continuing : Lead
  returning : Lead
  evaluating : Lead

abbrev pub lead_kind : Symbol → Lead
lead_kind symbol.LeftBrace = opening
lead_kind symbol.If = choosing
lead_kind symbol.Switch = switching
lead_kind symbol.While = repeating
lead_kind symbol.Do = doing
lead_kind symbol.For = looping
lead_kind symbol.Break = breaking
lead_kind symbol.Continue = continuing
lead_kind symbol.Return = returning
lead_kind _ = evaluating

unfoldable pub stmt_by : Source → Within → List Declared → ℕ → Lead → Option Stmt
stmt_by source inner names at opening = and_then (block_with at) (block_items source inner (all_turns source) names (at + 1))
stmt_by source inner names at choosing = and_then (if_with source inner names at) (enclosed_of source inner.parts names (at + 1))
stmt_by source inner names at switching = and_then (switch_with source inner names at) (enclosed_of source inner.parts names (at + 1))
stmt_by source inner names at repeating = and_then (while_with source inner names at) (enclosed_of source inner.parts names (at + 1))
stmt_by source inner names at doing = and_then (do_with source inner names at) (inner.stmt names (at + 1))
stmt_by source inner names at looping =
    where_true (stands source names (at + 1) symbol.LeftParen) (and_then (for_start source inner names at) (start_of source inner names (at + 2)))
stmt_by source inner names at breaking = jump source names at (tree.break (span_of at (at + 2)))
stmt_by source inner names at continuing = jump source names at (tree.continue (span_of at (at + 2)))
stmt_by source inner names at returning = and_then (return_with source names at) (optional_of source inner.parts symbol.Semicolon names (at + 1))
stmt_by source inner names at evaluating = and_then (expression_with source names at) (optional_of source inner.parts symbol.Semicolon names at)

-- the statement at a place
unfoldable pub stmt_of : Source → Within → List Declared → ℕ → Option Stmt
stmt_of source inner names at = stmt_by source inner names at (lead_kind (symbol_in source names at))

-- statements with labels
abbrev pub checked_item : SwitchItem → Option SwitchItem
checked_item item = checked (switch_item_height item) item

abbrev pub case_behind : ℕ → Expr → SwitchItem → Option SwitchItem
case_behind at label item = checked_item (tree.case (span_of at (switch_item_span item).after) label item)

abbrev pub case_with : Source → Within → List Declared → ℕ → Expr → Option SwitchItem
case_with source inner names at label =
    where_true (stands source (expr_declares source label ++ names) (expr_span label).after symbol.Colon)
    (and_then (case_behind at label) (inner.labelled (expr_declares source label ++ names) ((expr_span label).after + 1)))

abbrev pub default_behind : ℕ → SwitchItem → Option SwitchItem
default_behind at item = checked_item (tree.default (span_of at (switch_item_span item).after) item)

abbrev pub unlabelled_with : ℕ → Stmt → SwitchItem
unlabelled_with at stmt = tree.unlabelled (span_of at (stmt_span stmt).after) stmt

unfoldable pub labelled_of : Source → Within → List Declared → ℕ → Option SwitchItem
labelled_of source inner names at =
    if stands source names at symbol.Case then and_then (case_with source inner names at) (inner.parts.expr 2 names (at + 1))
    else if stands source names at symbol.Default
    then where_true (stands source names (at + 1) symbol.Colon) (and_then (default_behind at) (inner.labelled names (at + 2)))
    else option_map (unlabelled_with at) (stmt_of source inner names at)

-- what reads the parts of a node at so much depth
unfoldable pub within : Source → ℕ → Within
within source zero =
    record { parts = lower source zero; initialiser = initialiser_of source zero; stmt = λ names at. None; labelled = λ names at. None }
within source (suc depth) =
    record {
      parts = lower source (suc depth);
      initialiser = initialiser_of source (suc depth);
      stmt = stmt_of source (within source depth);
      labelled = labelled_of source (within source depth);
    }

-- external declarations
abbrev pub external_declared : ℕ → Declaration → External
external_declared at declaration = tree.external (span_of at (declaration_span declaration).after) declaration

abbrev pub definition_with : ℕ → Specifiers → Declarator → Stmt → Option External
definition_with at specifiers declarator body =
    checked (height_of (tree.definition (span_of at (stmt_span body).after) specifiers declarator body))
    (tree.definition (span_of at (stmt_span body).after) specifiers declarator body)

-- a function definition, whose declarator is that of a function
abbrev pub definition_of : Source → Within → List Declared → ℕ → Specifiers → Declarator → Option External
definition_of source inner names at specifiers declarator =
    where_true (is_some (own_parameters None declarator))
    (and_then (definition_with at specifiers declarator)
    (inner.stmt (body_declares source (own_parameters None declarator) ++ (named_declares source (defines_types source specifiers) declarator ++ names)) (declarator_span declarator).after))

-- what stands behind specifiers and a declarator
abbrev pub external_with : Source → Within → List Declared → ℕ → Specifiers → Declarator → Option External
external_with source inner names at specifiers declarator =
    if stands source names (declarator_span declarator).after symbol.LeftBrace then definition_of source inner names at specifiers declarator
    else option_map (external_declared at)
    (and_then (declaration_with source inner names at specifiers) (item_behind source inner (defines_types source specifiers) names (specifiers_span specifiers).after declarator))

-- what stands behind specifiers, where these names are in scope behind them
abbrev pub external_behind : Source → Within → List Declared → ℕ → Specifiers → Option External
external_behind source inner names at specifiers =
    if stands source names (specifiers_span specifiers).after symbol.Semicolon
    then option_map (external_declared at) (declaration_closed source names at specifiers [] (specifiers_span specifiers).after)
    else and_then (external_with source inner names at specifiers) (inner.parts.declarator named names (specifiers_span specifiers).after)

-- the external declaration at a place
unfoldable pub external_of : Source → Within → List Declared → ℕ → Option External
external_of source inner names at =
    and_then (λ specifiers. external_behind source inner (specifiers_declares source specifiers ++ names) at specifiers) (inner.parts.specifiers names at)
