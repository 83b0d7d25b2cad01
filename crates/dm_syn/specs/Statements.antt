-- The grammar of declarations, statements and external declarations (6.7, 6.8, 6.9), a clause a production, as in `Grammar`.
--     IsDeclaration source names declaration      the declaration is well formed where it stands
--     IsStmt source names stmt      and likewise a statement
--     IsExternal source names external      and an external declaration
use Rattle.std.specs.Prelude.{◌≡◌, ◌≢◌, ◌≤◌, ℕ, ◌+◌, Bool, false, List, [], ◌∷◌, ◌++◌, Option, Some, None, IsSome}
use Rattle.dm_token.specs.Limits.{greatest_height}
use Rattle.dm_syn.specs.declared.declared.Declared.{Declared}
use Rattle.dm_syn.specs.declared.symbol.Symbol.TheVariants as symbol
use Rattle.dm_syn.specs.Sources.{Source, symbol_in}
use Rattle.dm_syn.specs.Trees.{Expr, Specifiers, Declarator, Direct, Parameters, Initialiser, Initialisers, Item, Declaration, ForStart, Stmt, BlockItems, BlockItem, SwitchItems, SwitchItem, External}
use Rattle.dm_syn.specs.Trees as tree
use Rattle.dm_syn.specs.Heights.{height_of}
use Rattle.dm_syn.specs.Spans.{expr_span, specifiers_span, declarator_span, initialiser_span, initialisers_after, item_span, items_after, declaration_span, stmt_span, block_item_span, block_items_after, switch_item_span, switch_items_after}
use Rattle.dm_syn.specs.Scopes.{declarator_name, expr_declares, specifiers_declares, named_declares, parameters_declares, initialiser_declares, initialisers_declares, item_declares, items_declares, defines_types, optional_declares, start_declares, block_item_declares, switch_item_declares}
use Rattle.dm_syn.specs.Grammar.{level, IsExpr, IsSpecifiers, IsDeclarator, IsTrailing, trailing_after}

unfoldable mutual
  -- an initialiser (6.7.9)
  pub IsInitialiser : Source → List Declared → Initialiser → Type 0
  IsInitialiser source names (tree.value span expr) =
      ((expr_span expr).first ≡ span.first) × IsExpr source names expr × (1 ≤ level source expr) × (span.after ≡ (expr_span expr).after)
  IsInitialiser source names (tree.braces span tree.no_initialisers trailing) = ⊥
  IsInitialiser source names (tree.braces span (tree.more_initialisers first others) trailing) =
      (symbol_in source names span.first ≡ symbol.LeftBrace)
      × ((initialiser_span first).first ≡ span.first + 1) × IsInitialiser source names first
      × AreMoreInitialisers source (initialiser_declares source first ++ names) (initialiser_span first).after others
      × IsTrailing source (initialisers_declares source others ++ (initialiser_declares source first ++ names)) (initialisers_after (initialiser_span first).after others) trailing
      × (symbol_in source (initialisers_declares source others ++ (initialiser_declares source first ++ names))
      (trailing_after (initialisers_after (initialiser_span first).after others) trailing) ≡ symbol.RightBrace)
      × (span.after ≡ trailing_after (initialisers_after (initialiser_span first).after others) trailing + 1)

  -- initialisers with a comma before each
  pub AreMoreInitialisers : Source → List Declared → ℕ → Initialisers → Type 0
  AreMoreInitialisers source names at tree.no_initialisers = Unit {0}
  AreMoreInitialisers source names at (tree.more_initialisers first others) =
      (symbol_in source names at ≡ symbol.Comma)
      × ((initialiser_span first).first ≡ at + 1) × IsInitialiser source names first
      × AreMoreInitialisers source (initialiser_declares source first ++ names) (initialiser_span first).after others

-- a declarator, and its initialiser if it has one, behind specifiers with `typedef` or without (6.7)
unfoldable pub IsItem : Source → List Declared → Bool → Item → Type 0
IsItem source names is_type (tree.plain span declarator) =
    ((declarator_span declarator).first ≡ span.first) × IsDeclarator source names false declarator × IsSome (declarator_name declarator)
    × (span.after ≡ (declarator_span declarator).after)
IsItem source names is_type (tree.initialised span declarator initialiser) =
    ((declarator_span declarator).first ≡ span.first) × IsDeclarator source names false declarator × IsSome (declarator_name declarator)
    × (symbol_in source (named_declares source is_type declarator ++ names) (declarator_span declarator).after ≡ symbol.Equals)
    × ((initialiser_span initialiser).first ≡ (declarator_span declarator).after + 1)
    × IsInitialiser source (named_declares source is_type declarator ++ names) initialiser
    × (span.after ≡ (initialiser_span initialiser).after)

-- such items with a comma before each
unfoldable pub AreMoreItems : Source → List Declared → Bool → ℕ → List Item → Type 0
AreMoreItems source names is_type at [] = Unit {0}
AreMoreItems source names is_type at (first ∷ others) =
    (symbol_in source names at ≡ symbol.Comma) × ((item_span first).first ≡ at + 1) × IsItem source names is_type first
    × AreMoreItems source (item_declares source is_type first ++ names) is_type (item_span first).after others

-- such items with commas between them, which stand at a place; there may be none
unfoldable pub AreItems : Source → List Declared → Bool → ℕ → List Item → Type 0
AreItems source names is_type at [] = Unit {0}
AreItems source names is_type at (first ∷ others) =
    ((item_span first).first ≡ at) × IsItem source names is_type first
    × AreMoreItems source (item_declares source is_type first ++ names) is_type (item_span first).after others

-- a declaration (6.7)
unfoldable pub IsDeclaration : Source → List Declared → Declaration → Type 0
IsDeclaration source names (tree.declaring span specifiers items) =
    ((specifiers_span specifiers).first ≡ span.first) × IsSpecifiers source names specifiers
    × AreItems source (specifiers_declares source specifiers ++ names) (defines_types source specifiers) (specifiers_span specifiers).after items
    × (symbol_in source (items_declares source (defines_types source specifiers) items ++ (specifiers_declares source specifiers ++ names))
    (items_after (specifiers_span specifiers).after items) ≡ symbol.Semicolon)
    × (span.after ≡ items_after (specifiers_span specifiers).after items + 1)

-- an expression that may be absent, at a place
abbrev pub IsOptional : Source → List Declared → ℕ → Option Expr → Type 0
IsOptional source names at None = Unit {0}
IsOptional source names at (Some expr) = ((expr_span expr).first ≡ at) × IsExpr source names expr

abbrev pub optional_after : ℕ → Option Expr → ℕ
optional_after at None = at
optional_after at (Some expr) = (expr_span expr).after

-- the first clause of a `for`, with its semicolon, at a place (6.8.5.3)
unfoldable pub IsStart : Source → List Declared → ℕ → ForStart → Type 0
IsStart source names at (tree.declares declaration) = ((declaration_span declaration).first ≡ at) × IsDeclaration source names declaration
IsStart source names at (tree.evaluates expr) =
    IsOptional source names at expr × (symbol_in source (optional_declares source expr ++ names) (optional_after at expr) ≡ symbol.Semicolon)

abbrev pub start_after : ℕ → ForStart → ℕ
start_after at (tree.declares declaration) = (declaration_span declaration).after
start_after at (tree.evaluates expr) = optional_after at expr + 1

-- an expression in parentheses at a place, as behind `if`
abbrev pub IsEnclosed : Source → List Declared → ℕ → Expr → Type 0
IsEnclosed source names at expr =
    (symbol_in source names at ≡ symbol.LeftParen) × ((expr_span expr).first ≡ at + 1) × IsExpr source names expr
    × (symbol_in source (expr_declares source expr ++ names) (expr_span expr).after ≡ symbol.RightParen)

unfoldable mutual
  pub IsStmt : Source → List Declared → Stmt → Type 0
  -- 6.8.2
  IsStmt source names (tree.block span items) =
      (symbol_in source names span.first ≡ symbol.LeftBrace)
      × ((behind : List Declared) × AreBlockItems source names (span.first + 1) items behind
      × (symbol_in source behind (block_items_after (span.first + 1) items) ≡ symbol.RightBrace))
      × (span.after ≡ block_items_after (span.first + 1) items + 1)
  -- 6.8.3
  IsStmt source names (tree.expression span expr) =
      IsOptional source names span.first expr
      × (symbol_in source (optional_declares source expr ++ names) (optional_after span.first expr) ≡ symbol.Semicolon)
      × (span.after ≡ optional_after span.first expr + 1)
  -- 6.8.4.1: an `else` belongs to the nearest `if`
  IsStmt source names (tree.if_only span condition body) =
      (symbol_in source names span.first ≡ symbol.If) × IsEnclosed source names (span.first + 1) condition
      × ((stmt_span body).first ≡ (expr_span condition).after + 1) × IsStmt source (expr_declares source condition ++ names) body
      × (symbol_in source names (stmt_span body).after ≢ symbol.Else)
      × (span.after ≡ (stmt_span body).after)
  IsStmt source names (tree.if_else span condition body other) =
      (symbol_in source names span.first ≡ symbol.If) × IsEnclosed source names (span.first + 1) condition
      × ((stmt_span body).first ≡ (expr_span condition).after + 1) × IsStmt source (expr_declares source condition ++ names) body
      × (symbol_in source names (stmt_span body).after ≡ symbol.Else)
      × ((stmt_span other).first ≡ (stmt_span body).after + 1) × IsStmt source (expr_declares source condition ++ names) other
      × (span.after ≡ (stmt_span other).after)
  -- 6.8.4.2
  IsStmt source names (tree.switch span subject items) =
      (symbol_in source names span.first ≡ symbol.Switch) × IsEnclosed source names (span.first + 1) subject
      × (symbol_in source names ((expr_span subject).after + 1) ≡ symbol.LeftBrace)
      × ((behind : List Declared) × AreSwitchItems source (expr_declares source subject ++ names) ((expr_span subject).after + 2) items behind
      × (symbol_in source behind (switch_items_after ((expr_span subject).after + 2) items) ≡ symbol.RightBrace))
      × (span.after ≡ switch_items_after ((expr_span subject).after + 2) items + 1)
  -- 6.8.5
  IsStmt source names (tree.while span condition body) =
      (symbol_in source names span.first ≡ symbol.While) × IsEnclosed source names (span.first + 1) condition
      × ((stmt_span body).first ≡ (expr_span condition).after + 1) × IsStmt source (expr_declares source condition ++ names) body
      × (span.after ≡ (stmt_span body).after)
  IsStmt source names (tree.do_while span body condition) =
      (symbol_in source names span.first ≡ symbol.Do)
      × ((stmt_span body).first ≡ span.first + 1) × IsStmt source names body
      × (symbol_in source names (stmt_span body).after ≡ symbol.While) × IsEnclosed source names ((stmt_span body).after + 1) condition
      × (symbol_in source names ((expr_span condition).after + 1) ≡ symbol.Semicolon)
      × (span.after ≡ (expr_span condition).after + 2)
  IsStmt source names (tree.for_loop span start condition step body) =
      (symbol_in source names span.first ≡ symbol.For) × (symbol_in source names (span.first + 1) ≡ symbol.LeftParen)
      × IsStart source names (span.first + 2) start
      × IsOptional source (start_declares source start ++ names) (start_after (span.first + 2) start) condition
      × (symbol_in source names (optional_after (start_after (span.first + 2) start) condition) ≡ symbol.Semicolon)
      × IsOptional source (optional_declares source condition ++ (start_declares source start ++ names)) (optional_after (start_after (span.first + 2) start) condition + 1) step
      × (symbol_in source names (optional_after (optional_after (start_after (span.first + 2) start) condition + 1) step) ≡ symbol.RightParen)
      × ((stmt_span body).first ≡ optional_after (optional_after (start_after (span.first + 2) start) condition + 1) step + 1)
      × IsStmt source (optional_declares source step ++ (optional_declares source condition ++ (start_declares source start ++ names))) body
      × (span.after ≡ (stmt_span body).after)
  -- 6.8.6
  IsStmt source names (tree.break span) =
      (symbol_in source names span.first ≡ symbol.Break) × (symbol_in source names (span.first + 1) ≡ symbol.Semicolon) × (span.after ≡ span.first + 2)
  IsStmt source names (tree.continue span) =
      (symbol_in source names span.first ≡ symbol.Continue) × (symbol_in source names (span.first + 1) ≡ symbol.Semicolon) × (span.after ≡ span.first + 2)
  IsStmt source names (tree.return span expr) =
      (symbol_in source names span.first ≡ symbol.Return) × IsOptional source names (span.first + 1) expr
      × (symbol_in source (optional_declares source expr ++ names) (optional_after (span.first + 1) expr) ≡ symbol.Semicolon)
      × (span.after ≡ optional_after (span.first + 1) expr + 1)

  -- declarations and statements at a place, and what is in scope behind them
  pub AreBlockItems : Source → List Declared → ℕ → BlockItems → List Declared → Type 0
  AreBlockItems source names at tree.no_items behind = behind ≡ names
  AreBlockItems source names at (tree.more_items first others) behind =
      ((block_item_span first).first ≡ at) × IsBlockItem source names first
      × AreBlockItems source (block_item_declares source first ++ names) (block_item_span first).after others behind

  pub IsBlockItem : Source → List Declared → BlockItem → Type 0
  IsBlockItem source names (tree.declared_item declaration) = IsDeclaration source names declaration
  IsBlockItem source names (tree.stated_item stmt) = IsStmt source names stmt

  -- statements with labels at a place, and what is in scope behind them
  pub AreSwitchItems : Source → List Declared → ℕ → SwitchItems → List Declared → Type 0
  AreSwitchItems source names at tree.no_switch_items behind = behind ≡ names
  AreSwitchItems source names at (tree.more_switch_items first others) behind =
      ((switch_item_span first).first ≡ at) × IsSwitchItem source names first
      × AreSwitchItems source (switch_item_declares source first ++ names) (switch_item_span first).after others behind

  -- 6.8.1
  pub IsSwitchItem : Source → List Declared → SwitchItem → Type 0
  IsSwitchItem source names (tree.case span label item) =
      (symbol_in source names span.first ≡ symbol.Case)
      × ((expr_span label).first ≡ span.first + 1) × IsExpr source names label × (2 ≤ level source label)
      × (symbol_in source (expr_declares source label ++ names) (expr_span label).after ≡ symbol.Colon)
      × ((switch_item_span item).first ≡ (expr_span label).after + 1) × IsSwitchItem source (expr_declares source label ++ names) item
      × (span.after ≡ (switch_item_span item).after)
  IsSwitchItem source names (tree.default span item) =
      (symbol_in source names span.first ≡ symbol.Default) × (symbol_in source names (span.first + 1) ≡ symbol.Colon)
      × ((switch_item_span item).first ≡ span.first + 2) × IsSwitchItem source names item
      × (span.after ≡ (switch_item_span item).after)
  IsSwitchItem source names (tree.unlabelled span stmt) =
      ((stmt_span stmt).first ≡ span.first) × IsStmt source names stmt × (span.after ≡ (stmt_span stmt).after)

-- the parameters at the declared name of a declarator that is that of a function, parentheses apart (6.9.1)
abbrev pub own_in_pointers : List ℕ → Option Parameters → Option Parameters
own_in_pointers [] within = within
own_in_pointers (pointer ∷ pointers) within = None

abbrev mutual
  -- what stands nearest to the name, where nothing behind it does: parameters or something else
  pub own_parameters : Option Parameters → Declarator → Option Parameters
  own_parameters nearest (tree.shaped span pointers direct) = own_in_direct (own_in_pointers pointers nearest) direct

  pub own_in_direct : Option Parameters → Direct → Option Parameters
  own_in_direct nearest tree.absent = nearest
  own_in_direct nearest (tree.declared name) = nearest
  own_in_direct nearest (tree.enclosed declarator) = own_parameters nearest declarator
  own_in_direct nearest (tree.array direct) = own_in_direct None direct
  own_in_direct nearest (tree.sized direct length) = own_in_direct None direct
  own_in_direct nearest (tree.function direct parameters) = own_in_direct (Some parameters) direct

-- what the parameters of a function definition declare in its body (6.2.1p4, 6.9.1)
abbrev pub body_declares : Source → Option Parameters → List Declared
body_declares source None = []
body_declares source (Some parameters) = parameters_declares source parameters

-- a block, and no other statement
abbrev pub IsBlock : Stmt → Type 0
IsBlock (tree.block span items) = Unit {0}
IsBlock _ = ⊥

-- an external declaration (6.9)
unfoldable pub IsExternal : Source → List Declared → External → Type 0
IsExternal source names (tree.external span declaration) =
    ((declaration_span declaration).first ≡ span.first) × IsDeclaration source names declaration
    × (span.after ≡ (declaration_span declaration).after)
IsExternal source names (tree.definition span specifiers declarator body) =
    ((specifiers_span specifiers).first ≡ span.first) × IsSpecifiers source names specifiers
    × ((declarator_span declarator).first ≡ (specifiers_span specifiers).after)
    × IsDeclarator source (specifiers_declares source specifiers ++ names) false declarator × IsSome (declarator_name declarator)
    × IsSome (own_parameters None declarator)
    × ((stmt_span body).first ≡ (declarator_span declarator).after) × IsBlock body
    × IsStmt source (body_declares source (own_parameters None declarator)
    ++ (named_declares source (defines_types source specifiers) declarator ++ (specifiers_declares source specifiers ++ names))) body
    × (span.after ≡ (stmt_span body).after)

-- an external declaration is well formed, and no higher than the greatest height
abbrev pub IsWellFormed : Source → List Declared → External → Type 0
IsWellFormed source names one = IsExternal source names one × (height_of one ≤ greatest_height)
