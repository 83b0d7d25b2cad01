-- Well-formed declarations and statements end behind where they begin.
use Rattle.std.proofs.Common.{ℕ, ◌+◌, ◌<◌, ◌≤◌, Bool, true, false, List, [], ◌∷◌, Option, Some, None, arith}
use Rattle.dm_syn.specs.declared.declared.Declared.{Declared}
use Rattle.dm_syn.specs.Sources.{Source}
use Rattle.dm_syn.specs.Trees.{Expr, Initialiser, Initialisers, Item, Declaration, ForStart, Stmt, BlockItems, BlockItem, SwitchItems, SwitchItem}
use Rattle.dm_syn.specs.Trees as tree
use Rattle.dm_syn.specs.Spans.{expr_span, initialiser_span, initialisers_after, item_span, items_after, declaration_span, stmt_span, block_item_span, block_items_after, switch_item_span, switch_items_after}
use Rattle.dm_syn.specs.Grammar.{trailing_after}
use Rattle.dm_syn.specs.Statements.{IsInitialiser, AreMoreInitialisers, IsItem, AreMoreItems, AreItems, IsDeclaration, IsOptional, optional_after, IsStart, start_after, IsEnclosed, IsStmt, AreBlockItems, IsBlockItem, AreSwitchItems, IsSwitchItem}
use Rattle.dm_pexpr.proofs.Positions.{expr-on, specifiers-on, declarator-on, trailing-on}

mutual
  unfolding IsInitialiser AreMoreInitialisers

  pub initialiser-on : (source : Source) (names : List Declared) (it : Initialiser) → IsInitialiser source names it → (initialiser_span it).first ≤ (initialiser_span it).after
  initialiser-on source names (tree.value span expr) h = omega (arith, h.0, h.3, expr-on source names expr h.1)
  initialiser-on source names (tree.braces span tree.no_initialisers trailing) h = absurd h
  initialiser-on source names (tree.braces span (tree.more_initialisers first others) trailing) h =
      omega (
        arith,
        h.1,
        h.6,
        initialiser-on source names first h.2,
        initialisers-on source _ _ others h.3,
        trailing-on (initialisers_after (initialiser_span first).after others) trailing,
      )

  pub initialisers-on : (source : Source) (names : List Declared) (at : ℕ) (it : Initialisers) → AreMoreInitialisers source names at it → at ≤ initialisers_after at it
  initialisers-on source names at tree.no_initialisers h = omega arith
  initialisers-on source names at (tree.more_initialisers first others) h = omega (arith, h.1, initialiser-on source names first h.2, initialisers-on source _ _ others h.3)

pub item-on : (source : Source) (names : List Declared) (is_type : Bool) (it : Item) → IsItem source names is_type it → (item_span it).first ≤ (item_span it).after
unfolding IsItem
item-on source names is_type (tree.plain span declarator) h = omega (arith, h.0, h.3, declarator-on source names false declarator h.1)
item-on source names is_type (tree.initialised span declarator initialiser) h =
    omega (arith, h.0, h.4, h.6, declarator-on source names false declarator h.1, initialiser-on source _ initialiser h.5)

more-items-on : (source : Source) (is_type : Bool) (it : List Item) (names : List Declared) (at : ℕ) → AreMoreItems source names is_type at it → at ≤ items_after at it
unfolding AreMoreItems
more-items-on source is_type [] names at h = omega arith
more-items-on source is_type (first ∷ others) names at h = omega (arith, h.1, item-on source names is_type first h.2, more-items-on source is_type others _ _ h.3)

items-on : (source : Source) (names : List Declared) (is_type : Bool) (at : ℕ) (it : List Item) → AreItems source names is_type at it → at ≤ items_after at it
unfolding AreItems
items-on source names is_type at [] h = omega arith
items-on source names is_type at (first ∷ others) h = omega (arith, h.0, item-on source names is_type first h.1, more-items-on source is_type others _ _ h.2)

pub declaration-on : (source : Source) (names : List Declared) (it : Declaration) → IsDeclaration source names it → (declaration_span it).first < (declaration_span it).after
unfolding IsDeclaration
declaration-on source names (tree.declaring span specifiers items) h = omega (arith, h.0, h.4, specifiers-on source names specifiers h.1, items-on source _ _ _ items h.2)

optional-on : (source : Source) (names : List Declared) (at : ℕ) (it : Option Expr) → IsOptional source names at it → at ≤ optional_after at it
optional-on source names at None h = omega arith
optional-on source names at (Some expr) h = omega (arith, h.0, expr-on source names expr h.1)

start-on : (source : Source) (names : List Declared) (at : ℕ) (it : ForStart) → IsStart source names at it → at ≤ start_after at it
unfolding IsStart
start-on source names at (tree.declares declaration) h = omega (arith, h.0, declaration-on source names declaration h.1)
start-on source names at (tree.evaluates expr) h = omega (arith, optional-on source names at expr h.0)

enclosed-on : (source : Source) (names : List Declared) (at : ℕ) (it : Expr) → IsEnclosed source names at it → at < (expr_span it).after
enclosed-on source names at it h = omega (arith, h.1, expr-on source names it h.2)

mutual
  unfolding IsStmt AreBlockItems IsBlockItem AreSwitchItems IsSwitchItem

  pub stmt-on : (source : Source) (names : List Declared) (it : Stmt) → IsStmt source names it → (stmt_span it).first < (stmt_span it).after
  stmt-on source names (tree.block span items) h = omega (arith, h.2, block-items-on source names (span.first + 1) items h.1.0 h.1.1)
  stmt-on source names (tree.expression span expr) h = omega (arith, h.2, optional-on source names span.first expr h.0)
  stmt-on source names (tree.if_only span condition body) h =
      omega (arith, h.2, h.5, enclosed-on source names (span.first + 1) condition h.1, stmt-on source _ body h.3)
  stmt-on source names (tree.if_else span condition body other) h =
      omega (arith, h.2, h.5, h.7, enclosed-on source names (span.first + 1) condition h.1, stmt-on source _ body h.3, stmt-on source _ other h.6)
  stmt-on source names (tree.switch span subject items) h =
      omega (arith, h.4, enclosed-on source names (span.first + 1) subject h.1, switch-items-on source _ _ items h.3.0 h.3.1)
  stmt-on source names (tree.while span condition body) h =
      omega (arith, h.2, h.4, enclosed-on source names (span.first + 1) condition h.1, stmt-on source _ body h.3)
  stmt-on source names (tree.do_while span body condition) h =
      omega (arith, h.1, h.6, stmt-on source _ body h.2, enclosed-on source names ((stmt_span body).after + 1) condition h.4)
  stmt-on source names (tree.for_loop span start condition step body) h =
      omega (
        arith,
        h.7,
        h.9,
        start-on source names (span.first + 2) start h.2,
        optional-on source _ (start_after (span.first + 2) start) condition h.3,
        optional-on source _ (optional_after (start_after (span.first + 2) start) condition + 1) step h.5,
        stmt-on source _ body h.8,
      )
  stmt-on source names (tree.break span) h = omega (arith, h.2)
  stmt-on source names (tree.continue span) h = omega (arith, h.2)
  stmt-on source names (tree.return span expr) h = omega (arith, h.3, optional-on source names (span.first + 1) expr h.1)

  pub block-items-on : (source : Source) (names : List Declared) (at : ℕ) (it : BlockItems) (behind : List Declared) → AreBlockItems source names at it behind → at ≤ block_items_after at it
  block-items-on source names at tree.no_items behind h = omega arith
  block-items-on source names at (tree.more_items first others) behind h =
      omega (arith, h.0, block-item-on source names first h.1, block-items-on source _ _ others behind h.2)

  pub block-item-on : (source : Source) (names : List Declared) (it : BlockItem) → IsBlockItem source names it → (block_item_span it).first < (block_item_span it).after
  block-item-on source names (tree.declared_item declaration) h = declaration-on source names declaration h
  block-item-on source names (tree.stated_item stmt) h = stmt-on source names stmt h

  pub switch-items-on : (source : Source) (names : List Declared) (at : ℕ) (it : SwitchItems) (behind : List Declared) → AreSwitchItems source names at it behind → at ≤ switch_items_after at it
  switch-items-on source names at tree.no_switch_items behind h = omega arith
  switch-items-on source names at (tree.more_switch_items first others) behind h =
      omega (arith, h.0, switch-item-on source names first h.1, switch-items-on source _ _ others behind h.2)

  pub switch-item-on : (source : Source) (names : List Declared) (it : SwitchItem) → IsSwitchItem source names it → (switch_item_span it).first < (switch_item_span it).after
  switch-item-on source names (tree.case span label item) h =
      omega (arith, h.1, h.5, h.7, expr-on source names label h.2, switch-item-on source _ item h.6)
  switch-item-on source names (tree.default span item) h = omega (arith, h.2, h.4, switch-item-on source names item h.3)
  switch-item-on source names (tree.unlabelled span stmt) h = omega (arith, h.0, h.2, stmt-on source names stmt h.1)
