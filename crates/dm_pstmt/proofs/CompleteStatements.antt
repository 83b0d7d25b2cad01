-- Well-formed statements are read from their tokens, where what reads their parts does so.
use Rattle.std.proofs.Common.{◌≡◌, ℕ, zero, suc, ◌+◌, ◌<◌, ◌≤◌, false, List, ◌++◌, Option, Some, None, refl, sym, ap, ◌∙◌, arith, length, option_map}
use Rattle.dm_token.specs.Limits.{greatest_height}
use Rattle.dm_syn.specs.declared.declared.Declared.{Declared}
use Rattle.dm_syn.specs.declared.symbol.Symbol.{Symbol}
use Rattle.dm_syn.specs.declared.symbol.Symbol.TheVariants as symbol
use Rattle.dm_syn.specs.Symbols.{is, is_identifier, begins_specifiers}
use Rattle.dm_syn.specs.Sources.{Source, symbol_at, symbol_in}
use Rattle.dm_syn.specs.Trees.{Expr, Declaration, ForStart, Stmt, BlockItems, BlockItem, SwitchItems, SwitchItem}
use Rattle.dm_syn.specs.Trees as tree
use Rattle.dm_syn.specs.Spans.{expr_span, stmt_span, block_item_span, block_items_after, switch_item_span, switch_items_after}
use Rattle.dm_syn.specs.Scopes.{expr_declares, optional_declares, start_declares, block_item_declares, switch_item_declares}
use Rattle.dm_syn.specs.Heights.{expr_height, optional_height, start_height, stmt_height, block_items_height, block_item_height, switch_items_height, switch_item_height}
use Rattle.dm_syn.specs.Statements.{IsOptional, optional_after, IsStart, start_after, IsEnclosed, IsStmt, AreBlockItems, IsBlockItem, AreSwitchItems, IsSwitchItem}
use Rattle.dm_pexpr.specs.Parsing.{span_of, all_turns, and_then, suffix_kind, no_suffix, front_kind, no_front}
use Rattle.dm_pexpr.proofs.SpecifierSymbols.{specifier-no-right-brace}
use Rattle.dm_pexpr.proofs.SymbolLemmas.{stops-none, front-no-specifier}
use Rattle.dm_pexpr.proofs.Positions.{present}
use Rattle.dm_pexpr.proofs.Expressions.{fits, holds, it-is, if-true, if-false, fronts}
use Rattle.dm_pexpr.proofs.Declarators.{it-is-not}
use Rattle.dm_pstmt.specs.Parsing.{Within, declaration_of, optional_of, enclosed_by, enclosed_of, checked_stmt, expression_with, return_with, block_item_of, block_items, block_with, else_with, if_behind, if_with, switch_items, switch_braced, switch_with, while_behind, while_with, do_behind, do_with, start_with, start_of, for_body, for_step, for_condition, for_start, lead_kind, stmt_by, stmt_of, checked_item, case_behind, case_with, default_behind, unlabelled_with, labelled_of}
use Rattle.dm_pstmt.proofs.Results.{at-symbol, in-symbol, alike}
use Rattle.dm_pstmt.proofs.Positions.{block-items-on, block-item-on, switch-items-on, switch-item-on}
use Rattle.dm_pstmt.proofs.Beginnings.{stands-there, front-evaluates, front-not, declaration-begins, stmt-begins, stmt-no-right-brace, stmt-no-case, stmt-no-default, stmt-no-specifier, labelled-begins}
use Rattle.dm_pexpr.proofs.SymbolTests.{is-it}
use Rattle.dm_pexpr.proofs.TestLemmas.{unless}
use Rattle.dm_pstmt.proofs.CompleteDeclarations.{ReadsWithin, declaration-read}

more : (m depth : ℕ) → m ≤ depth → m ≤ depth + 1
more m depth h = omega (arith, h)

module _ (source : Source) (inner : Within) (depth : ℕ) (reads : ReadsWithin source inner depth) where
  -- an expression that may be absent, up to a symbol with which no expression goes on
  optional-read : (stop : Symbol) (names : List Declared) (at : ℕ) (it : Option Expr) → IsOptional source names at it → optional_height it ≤ depth → optional_height it ≤ greatest_height
      → symbol_at source (optional_after at it) ≡ stop → is_identifier stop ≡ false → suffix_kind stop ≡ no_suffix → front_kind stop ≡ no_front
      → optional_of source inner.parts stop names at ≡ Some it
  unfolding optional_of
  optional-read stop names at None h d l e i s f = if-true _ _ _ (stands-there source names at stop e i)
  optional-read stop names at (Some expr) h d l e i s f =
      if-false _ _ _ (ap (λ (place : ℕ). is (symbol_in source names place) stop) (sym h.0) ∙ front-not _ stop (fronts source names expr h.1) f)
      ∙ ap (option_map Some) (ap (inner.parts.expr 0 names) (sym h.0)
      ∙ reads.parts.expr 0 names expr h.1 (omega arith) d l (stops-none 0 _ (ap suffix_kind (in-symbol source (expr_declares source expr ++ names) _ stop e i) ∙ s)))

  -- an expression in parentheses
  enclosed-read : (names : List Declared) (at : ℕ) (it : Expr) → IsEnclosed source names at it → expr_height it ≤ depth → expr_height it ≤ greatest_height → enclosed_of source inner.parts names at ≡ Some it
  unfolding enclosed_of
  enclosed-read names at it h d l =
      holds _ _ (it-is _ symbol.LeftParen h.0)
      ∙ ap (and_then (enclosed_by source names)) (ap (inner.parts.expr 0 names) (sym h.1)
      ∙ reads.parts.expr 0 names it h.2 (omega arith) d l (stops-none 0 _ (ap suffix_kind h.3)))
      ∙ holds _ _ (it-is _ symbol.RightParen h.3)

  -- a statement that is a part
  part-read : (names : List Declared) (at : ℕ) (it : Stmt) → (stmt_span it).first ≡ at → IsStmt source names it → stmt_height it ≤ depth → stmt_height it ≤ greatest_height → inner.stmt names at ≡ Some it
  part-read names at it p h d l = ap (inner.stmt names) (sym p) ∙ reads.stmt names it h d l

  block-item-read : (names : List Declared) (it : BlockItem) → IsBlockItem source names it → block_item_height it ≤ depth → block_item_height it ≤ greatest_height
      → block_item_of source inner names (block_item_span it).first ≡ Some it
  unfolding IsBlockItem block_item_height block_item_of
  block-item-read names (tree.declared_item declaration) h d l =
      if-true _ _ _ (declaration-begins source names declaration h)
      ∙ ap (option_map tree.declared_item) (declaration-read source inner depth reads names declaration h (more _ depth d) l)
  block-item-read names (tree.stated_item stmt) h d l =
      if-false _ _ _ (stmt-no-specifier _ (stmt-begins source names stmt h)) ∙ ap (option_map tree.stated_item) (reads.stmt names stmt h d l)

  block-item-begins : (names : List Declared) (it : BlockItem) → IsBlockItem source names it → is (symbol_in source names (block_item_span it).first) symbol.RightBrace ≡ false
  unfolding IsBlockItem
  block-item-begins names (tree.declared_item declaration) h = specifier-no-right-brace _ (declaration-begins source names declaration h)
  block-item-begins names (tree.stated_item stmt) h = stmt-no-right-brace _ (stmt-begins source names stmt h)

  block-items-read : (it : BlockItems) (turns : ℕ) (names : List Declared) (at : ℕ) (behind : List Declared) → AreBlockItems source names at it behind
      → block_items_height it ≤ depth → block_items_height it ≤ greatest_height → length source.tokens < at + turns
      → symbol_in source behind (block_items_after at it) ≡ symbol.RightBrace → block_items source inner turns names at ≡ Some it
  unfolding AreBlockItems block_items_height block_items
  block-items-read tree.no_items zero names at behind h d l t e = absurd (omega (arith, t, present source behind at symbol.RightBrace e (λ (it : symbol.RightBrace ≡ symbol.End). cc)))
  block-items-read tree.no_items (suc turns) names at behind h d l t e = if-true _ _ _ (it-is _ symbol.RightBrace (alike source behind names at symbol.RightBrace e refl))
  block-items-read (tree.more_items first others) zero names at behind h d l t e =
      absurd (omega (
        arith,
        t,
        h.0,
        block-item-on source names first h.1,
        block-items-on source _ _ others behind h.2,
        present source behind _ symbol.RightBrace e (λ (it : symbol.RightBrace ≡ symbol.End). cc),
      ))
  block-items-read (tree.more_items first others) (suc turns) names at behind h d l t e =
      if-false _ _ _ (ap (λ (place : ℕ). is (symbol_in source names place) symbol.RightBrace) (sym h.0) ∙ block-item-begins names first h.1)
      ∙ ap (and_then (λ one. option_map (tree.more_items one) (block_items source inner turns (block_item_declares source one ++ names) (block_item_span one).after)))
      (ap (block_item_of source inner names) (sym h.0) ∙ block-item-read names first h.1 (omega (arith, d)) (omega (arith, l)))
      ∙ ap (option_map (tree.more_items first))
      (block-items-read others turns (block_item_declares source first ++ names) (block_item_span first).after behind h.2 (omega (arith, d)) (omega (arith, l))
      (omega (arith, t, h.0, block-item-on source names first h.1)) e)

  switch-items-read : (it : SwitchItems) (turns : ℕ) (names : List Declared) (at : ℕ) (behind : List Declared) → AreSwitchItems source names at it behind
      → switch_items_height it ≤ depth → switch_items_height it ≤ greatest_height → length source.tokens < at + turns
      → symbol_in source behind (switch_items_after at it) ≡ symbol.RightBrace → switch_items source inner turns names at ≡ Some it
  unfolding AreSwitchItems switch_items_height switch_items
  switch-items-read tree.no_switch_items zero names at behind h d l t e = absurd (omega (arith, t, present source behind at symbol.RightBrace e (λ (it : symbol.RightBrace ≡ symbol.End). cc)))
  switch-items-read tree.no_switch_items (suc turns) names at behind h d l t e = if-true _ _ _ (it-is _ symbol.RightBrace (alike source behind names at symbol.RightBrace e refl))
  switch-items-read (tree.more_switch_items first others) zero names at behind h d l t e =
      absurd (omega (
        arith,
        t,
        h.0,
        switch-item-on source names first h.1,
        switch-items-on source _ _ others behind h.2,
        present source behind _ symbol.RightBrace e (λ (it : symbol.RightBrace ≡ symbol.End). cc),
      ))
  switch-items-read (tree.more_switch_items first others) (suc turns) names at behind h d l t e =
      if-false _ _ _ (ap (λ (place : ℕ). is (symbol_in source names place) symbol.RightBrace) (sym h.0) ∙ labelled-begins source names first h.1)
      ∙ ap (and_then (λ one. option_map (tree.more_switch_items one) (switch_items source inner turns (switch_item_declares source one ++ names) (switch_item_span one).after)))
      (ap (inner.labelled names) (sym h.0) ∙ reads.labelled names first h.1 (omega (arith, d)) (omega (arith, l)))
      ∙ ap (option_map (tree.more_switch_items first))
      (switch-items-read others turns (switch_item_declares source first ++ names) (switch_item_span first).after behind h.2 (omega (arith, d)) (omega (arith, l))
      (omega (arith, t, h.0, switch-item-on source names first h.1)) e)

  start-read : (names : List Declared) (at : ℕ) (it : ForStart) → IsStart source names at it → start_height it ≤ depth → start_height it ≤ greatest_height → start_of source inner names at ≡ Some it
  unfolding IsStart start_of
  start-read names at (tree.declares declaration) h d l =
      if-true _ _ _ (ap (λ (place : ℕ). begins_specifiers (symbol_in source names place)) (sym h.0) ∙ declaration-begins source names declaration h.1)
      ∙ ap (option_map tree.declares) (ap (declaration_of source inner names) (sym h.0) ∙ declaration-read source inner depth reads names declaration h.1 (more _ depth d) l)
  start-read names at (tree.evaluates None) h d l =
      if-false _ _ _ (ap begins_specifiers h.1)
      ∙ ap (and_then (start_with source names at)) (optional-read symbol.Semicolon names at None tt d l (at-symbol source names at symbol.Semicolon h.1 refl) refl refl refl)
      ∙ holds _ _ (it-is _ symbol.Semicolon h.1)
  start-read names at (tree.evaluates (Some expr)) h d l =
      if-false _ _ _ (ap (λ (place : ℕ). begins_specifiers (symbol_in source names place)) (sym h.0.0) ∙ front-no-specifier _ (fronts source names expr h.0.1))
      ∙ ap (and_then (start_with source names at)) (optional-read symbol.Semicolon names at (Some expr) h.0 d l (at-symbol source _ _ symbol.Semicolon h.1 refl) refl refl refl)
      ∙ holds _ _ (it-is _ symbol.Semicolon h.1)

  -- A well-formed statement is the one that is read.
  pub stmt-read : (names : List Declared) (it : Stmt) → IsStmt source names it → stmt_height it ≤ depth + 1 → stmt_height it ≤ greatest_height → stmt_of source inner names (stmt_span it).first ≡ Some it
  unfolding IsStmt stmt_height stmt_of stmt_by
  stmt-read names (tree.block span items) h d l =
      ap (stmt_by source inner names span.first) (ap lead_kind h.0)
      ∙ ap (and_then (block_with span.first)) (block-items-read items (all_turns source) names (span.first + 1) h.1.0 h.1.1 (omega (arith, d)) (omega (arith, l)) (omega arith) h.1.2)
      ∙ ap (λ (after : ℕ). checked_stmt (tree.block (span_of span.first after) items)) (sym h.2)
      ∙ fits _ _ l
  stmt-read names (tree.expression span None) h d l =
      ap (stmt_by source inner names span.first) (ap lead_kind h.1)
      ∙ ap (and_then (expression_with source names span.first)) (optional-read symbol.Semicolon names span.first None tt (omega arith) (omega arith) (at-symbol source _ _ symbol.Semicolon h.1 refl) refl refl refl)
      ∙ holds _ _ (it-is _ symbol.Semicolon h.1)
      ∙ ap (λ (after : ℕ). checked_stmt (tree.expression (span_of span.first after) None)) (sym h.2)
      ∙ fits _ _ l
  stmt-read names (tree.expression span (Some expr)) h d l =
      ap (stmt_by source inner names span.first)
      (ap (λ (at : ℕ). lead_kind (symbol_in source names at)) (sym h.0.0) ∙ front-evaluates _ (fronts source names expr h.0.1))
      ∙ ap (and_then (expression_with source names span.first)) (optional-read symbol.Semicolon names span.first (Some expr) h.0 (omega (arith, d)) (omega (arith, l)) (at-symbol source _ _ symbol.Semicolon h.1 refl) refl refl refl)
      ∙ holds _ _ (it-is _ symbol.Semicolon h.1)
      ∙ ap (λ (after : ℕ). checked_stmt (tree.expression (span_of span.first after) (Some expr))) (sym h.2)
      ∙ fits _ _ l
  stmt-read names (tree.if_only span condition body) h d l =
      ap (stmt_by source inner names span.first) (ap lead_kind h.0)
      ∙ ap (and_then (if_with source inner names span.first)) (enclosed-read names (span.first + 1) condition h.1 (omega (arith, d)) (omega (arith, l)))
      ∙ ap (and_then (if_behind source inner names span.first condition)) (part-read _ _ body h.2 h.3 (omega (arith, d)) (omega (arith, l)))
      ∙ if-false _ _ _ (unless _ (λ same. h.4 (is-it _ symbol.Else same)))
      ∙ ap (λ (after : ℕ). checked_stmt (tree.if_only (span_of span.first after) condition body)) (sym h.5)
      ∙ fits _ _ l
  stmt-read names (tree.if_else span condition body other) h d l =
      ap (stmt_by source inner names span.first) (ap lead_kind h.0)
      ∙ ap (and_then (if_with source inner names span.first)) (enclosed-read names (span.first + 1) condition h.1 (omega (arith, d)) (omega (arith, l)))
      ∙ ap (and_then (if_behind source inner names span.first condition)) (part-read _ _ body h.2 h.3 (omega (arith, d)) (omega (arith, l)))
      ∙ if-true _ _ _ (it-is _ symbol.Else h.4)
      ∙ ap (and_then (else_with span.first condition body)) (part-read _ _ other h.5 h.6 (omega (arith, d)) (omega (arith, l)))
      ∙ ap (λ (after : ℕ). checked_stmt (tree.if_else (span_of span.first after) condition body other)) (sym h.7)
      ∙ fits _ _ l
  stmt-read names (tree.switch span subject items) h d l =
      ap (stmt_by source inner names span.first) (ap lead_kind h.0)
      ∙ ap (and_then (switch_with source inner names span.first)) (enclosed-read names (span.first + 1) subject h.1 (omega (arith, d)) (omega (arith, l)))
      ∙ holds _ _ (it-is _ symbol.LeftBrace h.2)
      ∙ ap (and_then (switch_braced span.first subject))
      (switch-items-read items (all_turns source) (expr_declares source subject ++ names) ((expr_span subject).after + 2) h.3.0 h.3.1 (omega (arith, d)) (omega (arith, l)) (omega arith) h.3.2)
      ∙ ap (λ (after : ℕ). checked_stmt (tree.switch (span_of span.first after) subject items)) (sym h.4)
      ∙ fits _ _ l
  stmt-read names (tree.while span condition body) h d l =
      ap (stmt_by source inner names span.first) (ap lead_kind h.0)
      ∙ ap (and_then (while_with source inner names span.first)) (enclosed-read names (span.first + 1) condition h.1 (omega (arith, d)) (omega (arith, l)))
      ∙ ap (and_then (while_behind span.first condition)) (part-read _ _ body h.2 h.3 (omega (arith, d)) (omega (arith, l)))
      ∙ ap (λ (after : ℕ). checked_stmt (tree.while (span_of span.first after) condition body)) (sym h.4)
      ∙ fits _ _ l
  stmt-read names (tree.do_while span body condition) h d l =
      ap (stmt_by source inner names span.first) (ap lead_kind h.0)
      ∙ ap (and_then (do_with source inner names span.first)) (part-read _ _ body h.1 h.2 (omega (arith, d)) (omega (arith, l)))
      ∙ holds _ _ (it-is _ symbol.While h.3)
      ∙ ap (and_then (do_behind source names span.first body)) (enclosed-read names ((stmt_span body).after + 1) condition h.4 (omega (arith, d)) (omega (arith, l)))
      ∙ holds _ _ (it-is _ symbol.Semicolon h.5)
      ∙ ap (λ (after : ℕ). checked_stmt (tree.do_while (span_of span.first after) body condition)) (sym h.6)
      ∙ fits _ _ l
  stmt-read names (tree.for_loop span start condition step body) h d l =
      ap (stmt_by source inner names span.first) (ap lead_kind h.0)
      ∙ holds _ _ (it-is _ symbol.LeftParen h.1)
      ∙ ap (and_then (for_start source inner names span.first)) (start-read names (span.first + 2) start h.2 (omega (arith, d)) (omega (arith, l)))
      ∙ ap (and_then (for_condition source inner names span.first start (start_after (span.first + 2) start)))
      (optional-read symbol.Semicolon (start_declares source start ++ names) (start_after (span.first + 2) start) condition h.3 (omega (arith, d)) (omega (arith, l)) (at-symbol source _ _ symbol.Semicolon h.4 refl) refl refl refl)
      ∙ holds _ _ (it-is _ symbol.Semicolon h.4)
      ∙ ap (and_then (for_step source inner names span.first start condition (optional_after (start_after (span.first + 2) start) condition + 1)))
      (optional-read symbol.RightParen (optional_declares source condition ++ (start_declares source start ++ names)) (optional_after (start_after (span.first + 2) start) condition + 1) step h.5 (omega (arith, d)) (omega (arith, l)) (at-symbol source _ _ symbol.RightParen h.6 refl) refl refl refl)
      ∙ holds _ _ (it-is _ symbol.RightParen h.6)
      ∙ ap (and_then (for_body span.first start condition step)) (part-read _ _ body h.7 h.8 (omega (arith, d)) (omega (arith, l)))
      ∙ ap (λ (after : ℕ). checked_stmt (tree.for_loop (span_of span.first after) start condition step body)) (sym h.9)
      ∙ fits _ _ l
  stmt-read names (tree.break span) h d l =
      ap (stmt_by source inner names span.first) (ap lead_kind h.0)
      ∙ holds _ _ (it-is _ symbol.Semicolon h.1)
      ∙ ap (λ (after : ℕ). checked_stmt (tree.break (span_of span.first after))) (sym h.2)
      ∙ fits _ _ l
  stmt-read names (tree.continue span) h d l =
      ap (stmt_by source inner names span.first) (ap lead_kind h.0)
      ∙ holds _ _ (it-is _ symbol.Semicolon h.1)
      ∙ ap (λ (after : ℕ). checked_stmt (tree.continue (span_of span.first after))) (sym h.2)
      ∙ fits _ _ l
  stmt-read names (tree.return span expr) h d l =
      ap (stmt_by source inner names span.first) (ap lead_kind h.0)
      ∙ ap (and_then (return_with source names span.first)) (optional-read symbol.Semicolon names (span.first + 1) expr h.1 (omega (arith, d)) (omega (arith, l)) (at-symbol source _ _ symbol.Semicolon h.2 refl) refl refl refl)
      ∙ holds _ _ (it-is _ symbol.Semicolon h.2)
      ∙ ap (λ (after : ℕ). checked_stmt (tree.return (span_of span.first after) expr)) (sym h.3)
      ∙ fits _ _ l

  -- A well-formed statement with labels is the one that is read.
  pub labelled-read : (names : List Declared) (it : SwitchItem) → IsSwitchItem source names it → switch_item_height it ≤ depth + 1 → switch_item_height it ≤ greatest_height
      → labelled_of source inner names (switch_item_span it).first ≡ Some it
  unfolding IsSwitchItem switch_item_height labelled_of
  labelled-read names (tree.case span label item) h d l =
      if-true _ _ _ (it-is _ symbol.Case h.0)
      ∙ ap (and_then (case_with source inner names span.first)) (ap (inner.parts.expr 2 names) (sym h.1)
      ∙ reads.parts.expr 2 names label h.2 h.3 (omega (arith, d)) (omega (arith, l)) (stops-none 2 _ (ap suffix_kind h.4)))
      ∙ holds _ _ (it-is _ symbol.Colon h.4)
      ∙ ap (and_then (case_behind span.first label)) (ap (inner.labelled (expr_declares source label ++ names)) (sym h.5)
      ∙ reads.labelled (expr_declares source label ++ names) item h.6 (omega (arith, d)) (omega (arith, l)))
      ∙ ap (λ (after : ℕ). checked_item (tree.case (span_of span.first after) label item)) (sym h.7)
      ∙ fits _ _ l
  labelled-read names (tree.default span item) h d l =
      if-false _ _ _ (it-is-not _ symbol.Default symbol.Case h.0 refl)
      ∙ if-true _ _ _ (it-is _ symbol.Default h.0)
      ∙ holds _ _ (it-is _ symbol.Colon h.1)
      ∙ ap (and_then (default_behind span.first)) (ap (inner.labelled names) (sym h.2) ∙ reads.labelled names item h.3 (omega (arith, d)) (omega (arith, l)))
      ∙ ap (λ (after : ℕ). checked_item (tree.default (span_of span.first after) item)) (sym h.4)
      ∙ fits _ _ l
  labelled-read names (tree.unlabelled span stmt) h d l =
      if-false _ _ _ (ap (λ (at : ℕ). is (symbol_in source names at) symbol.Case) (sym h.0) ∙ stmt-no-case _ (stmt-begins source names stmt h.1))
      ∙ if-false _ _ _ (ap (λ (at : ℕ). is (symbol_in source names at) symbol.Default) (sym h.0) ∙ stmt-no-default _ (stmt-begins source names stmt h.1))
      ∙ ap (option_map (unlabelled_with span.first)) (ap (stmt_of source inner names) (sym h.0) ∙ stmt-read names stmt h.1 d l)
      ∙ ap (λ (after : ℕ). Some (tree.unlabelled (span_of span.first after) stmt)) (sym h.2)
