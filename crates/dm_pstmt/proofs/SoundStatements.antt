-- Statements that are read are well formed, where what reads their parts gives well-formed parts.
use Rattle.std.proofs.Common.{◌≡◌, ℕ, zero, suc, ◌+◌, ⊎_elim, List, ◌++◌, Option, Some, refl, subst, option_map}
use Rattle.dm_syn.specs.declared.declared.Declared.{Declared}
use Rattle.dm_syn.specs.declared.symbol.Symbol.{Symbol}
use Rattle.dm_syn.specs.declared.symbol.Symbol.TheVariants as symbol
use Rattle.dm_syn.specs.Symbols.{begins_specifiers}
use Rattle.dm_syn.specs.Sources.{Source, symbol_in}
use Rattle.dm_syn.specs.Trees.{Expr, Declaration, ForStart, Stmt, BlockItems, BlockItem, SwitchItems, SwitchItem}
use Rattle.dm_syn.specs.Trees as tree
use Rattle.dm_syn.specs.Spans.{expr_span, stmt_span, block_item_span, block_items_after, switch_item_span, switch_items_after}
use Rattle.dm_syn.specs.Scopes.{expr_declares, optional_declares, start_declares, block_item_declares, switch_item_declares}
use Rattle.dm_syn.specs.Statements.{IsOptional, optional_after, IsStart, start_after, IsEnclosed, IsStmt, AreBlockItems, IsBlockItem, AreSwitchItems, IsSwitchItem}
use Rattle.dm_pexpr.specs.Parsing.{Parts, span_of, all_turns, and_then}
use Rattle.dm_pexpr.proofs.SymbolTests.{is-it}
use Rattle.dm_pexpr.proofs.Soundness.{GivesFormed, inside, where-some, checked-some, branch}
use Rattle.dm_pstmt.specs.Parsing.{Within, stands, declaration_of, optional_of, enclosed_by, enclosed_of, expression_with, return_with, block_item_of, block_items, block_with, else_with, if_behind, if_with, switch_items, switch_braced, switch_with, while_behind, while_with, do_behind, do_with, start_with, start_of, for_body, for_step, for_condition, for_start, Lead, opening, choosing, switching, repeating, doing, looping, breaking, continuing, returning, evaluating, lead_kind, stmt_by, stmt_of, case_behind, case_with, default_behind, unlabelled_with, labelled_of}
use Rattle.dm_pstmt.proofs.Results.{then-some, map-some, is-other}
use Rattle.dm_pstmt.proofs.SoundDeclarations.{GivesWithin, StmtAt, LabelledAt, declaration-formed}

optional-formed : (source : Source) (parts : Parts) (formed : GivesFormed source parts) (stop : Symbol) (names : List Declared) (at : ℕ) (it : Option Expr)
    → optional_of source parts stop names at ≡ Some it → IsOptional source names at it
unfolding optional_of
optional-formed source parts formed stop names at it h =
    ⊎_elim (λ none. subst (IsOptional source names at) (inside _ _ none.1) tt)
    (λ some.
    let expr = map-some Some (parts.expr 0 names at) it some.1 in
    let one = formed.expr 0 names at expr.0 expr.1 in
    subst (IsOptional source names at) expr.2 (one.1, one.0))
    (branch (stands source names at stop) _ _ it h)

enclosed-formed : (source : Source) (parts : Parts) (formed : GivesFormed source parts) (names : List Declared) (at : ℕ) (it : Expr) → enclosed_of source parts names at ≡ Some it → IsEnclosed source names at it
unfolding enclosed_of
enclosed-formed source parts formed names at it h =
    let left = where-some _ _ it h in
    let expr = then-some (enclosed_by source names) (parts.expr 0 names (at + 1)) it left.1 in
    let right = where-some _ _ it expr.2 in
    let one = formed.expr 0 names (at + 1) expr.0 expr.1 in
    subst (IsEnclosed source names at) (inside _ _ right.1) (is-it _ symbol.LeftParen left.0, one.1, one.0, is-it _ symbol.RightParen right.0)

-- what a statement begins with
abbrev LeadIs : Symbol → Lead → Type 0
LeadIs it opening = it ≡ symbol.LeftBrace
LeadIs it choosing = it ≡ symbol.If
LeadIs it switching = it ≡ symbol.Switch
LeadIs it repeating = it ≡ symbol.While
LeadIs it doing = it ≡ symbol.Do
LeadIs it looping = it ≡ symbol.For
LeadIs it breaking = it ≡ symbol.Break
LeadIs it continuing = it ≡ symbol.Continue
LeadIs it returning = it ≡ symbol.Return
LeadIs it evaluating = Unit {0}

lead-is : (it : Symbol) → LeadIs it (lead_kind it)
lead-is symbol.LeftBrace = refl
lead-is symbol.If = refl
lead-is symbol.Switch = refl
lead-is symbol.While = refl
lead-is symbol.Do = refl
lead-is symbol.For = refl
lead-is symbol.Break = refl
lead-is symbol.Continue = refl
lead-is symbol.Return = refl
lead-is _ = tt

-- what stands between braces
abbrev BlockClosed : Source → List Declared → ℕ → BlockItems → Type 0
BlockClosed source names at it = (behind : List Declared) × AreBlockItems source names at it behind × (symbol_in source behind (block_items_after at it) ≡ symbol.RightBrace)

abbrev SwitchClosed : Source → List Declared → ℕ → SwitchItems → Type 0
SwitchClosed source names at it = (behind : List Declared) × AreSwitchItems source names at it behind × (symbol_in source behind (switch_items_after at it) ≡ symbol.RightBrace)

abbrev BlockItemAt : Source → List Declared → ℕ → BlockItem → Type 0
BlockItemAt source names at it = IsBlockItem source names it × ((block_item_span it).first ≡ at)

module _ (source : Source) (inner : Within) (formed : GivesWithin source inner) where
  block-item-formed : (names : List Declared) (at : ℕ) (it : BlockItem) → block_item_of source inner names at ≡ Some it → BlockItemAt source names at it
  unfolding block_item_of IsBlockItem
  block-item-formed names at it h =
      ⊎_elim
      (λ declares.
      let declaration = map-some tree.declared_item (declaration_of source inner names at) it declares.1 in
      let one = declaration-formed source inner formed names at declaration.0 declaration.1 in
      subst (BlockItemAt source names at) declaration.2 (one.0, one.1))
      (λ states.
      let stmt = map-some tree.stated_item (inner.stmt names at) it states.1 in
      let one = formed.stmt names at stmt.0 stmt.1 in
      subst (BlockItemAt source names at) stmt.2 (one.0, one.1))
      (branch (begins_specifiers (symbol_in source names at)) _ _ it h)

  block-items-formed : (turns : ℕ) (names : List Declared) (at : ℕ) (it : BlockItems) → block_items source inner turns names at ≡ Some it → BlockClosed source names at it
  unfolding block_items AreBlockItems
  block-items-formed zero names at it h = absurd (cc)
  block-items-formed (suc turns) names at it h =
      ⊎_elim
      (λ ends. subst (BlockClosed source names at) (inside _ _ ends.1) (names, refl, is-it _ symbol.RightBrace ends.0))
      (λ goes.
      let first = then-some (λ first. option_map (tree.more_items first) (block_items source inner turns (block_item_declares source first ++ names) (block_item_span first).after)) (block_item_of source inner names at) it goes.1 in
      let others = map-some (tree.more_items first.0) _ it first.2 in
      let one = block-item-formed names at first.0 first.1 in
      let rest = block-items-formed turns (block_item_declares source first.0 ++ names) (block_item_span first.0).after others.0 others.1 in
      subst (BlockClosed source names at) others.2 (rest.0, (one.1, one.0, rest.1), rest.2))
      (branch (stands source names at symbol.RightBrace) _ _ it h)

  switch-items-formed : (turns : ℕ) (names : List Declared) (at : ℕ) (it : SwitchItems) → switch_items source inner turns names at ≡ Some it → SwitchClosed source names at it
  unfolding switch_items AreSwitchItems
  switch-items-formed zero names at it h = absurd (cc)
  switch-items-formed (suc turns) names at it h =
      ⊎_elim
      (λ ends. subst (SwitchClosed source names at) (inside _ _ ends.1) (names, refl, is-it _ symbol.RightBrace ends.0))
      (λ goes.
      let first = then-some (λ first. option_map (tree.more_switch_items first) (switch_items source inner turns (switch_item_declares source first ++ names) (switch_item_span first).after)) (inner.labelled names at) it goes.1 in
      let others = map-some (tree.more_switch_items first.0) _ it first.2 in
      let one = formed.labelled names at first.0 first.1 in
      let rest = switch-items-formed turns (switch_item_declares source first.0 ++ names) (switch_item_span first.0).after others.0 others.1 in
      subst (SwitchClosed source names at) others.2 (rest.0, (one.1, one.0, rest.1), rest.2))
      (branch (stands source names at symbol.RightBrace) _ _ it h)

  block-formed : (names : List Declared) (at : ℕ) (it : Stmt) → symbol_in source names at ≡ symbol.LeftBrace → stmt_by source inner names at opening ≡ Some it → StmtAt source names at it
  unfolding IsStmt stmt_by
  block-formed names at it s h =
      let items = then-some (block_with at) (block_items source inner (all_turns source) names (at + 1)) it h in
      subst (StmtAt source names at) (checked-some _ _ it items.2) ((s, block-items-formed (all_turns source) names (at + 1) items.0 items.1, refl), refl)

  if-formed : (names : List Declared) (at : ℕ) (it : Stmt) → symbol_in source names at ≡ symbol.If → stmt_by source inner names at choosing ≡ Some it → StmtAt source names at it
  unfolding IsStmt stmt_by
  if-formed names at it s h =
      let condition = then-some (if_with source inner names at) (enclosed_of source inner.parts names (at + 1)) it h in
      let enclosed = enclosed-formed source inner.parts formed.parts names (at + 1) condition.0 condition.1 in
      let body = then-some (if_behind source inner names at condition.0) (inner.stmt (expr_declares source condition.0 ++ names) ((expr_span condition.0).after + 1)) it condition.2 in
      let one = formed.stmt (expr_declares source condition.0 ++ names) ((expr_span condition.0).after + 1) body.0 body.1 in
      ⊎_elim
      (λ with_else.
      let other = then-some (else_with at condition.0 body.0) (inner.stmt (expr_declares source condition.0 ++ names) ((stmt_span body.0).after + 1)) it with_else.1 in
      let last = formed.stmt (expr_declares source condition.0 ++ names) ((stmt_span body.0).after + 1) other.0 other.1 in
      subst (StmtAt source names at) (checked-some _ _ it other.2) ((s, enclosed, one.1, one.0, is-it _ symbol.Else with_else.0, last.1, last.0, refl), refl))
      (λ without. subst (StmtAt source names at) (checked-some _ _ it without.1) ((s, enclosed, one.1, one.0, is-other _ symbol.Else without.0, refl), refl))
      (branch (stands source names (stmt_span body.0).after symbol.Else) _ _ it body.2)

  switch-formed : (names : List Declared) (at : ℕ) (it : Stmt) → symbol_in source names at ≡ symbol.Switch → stmt_by source inner names at switching ≡ Some it → StmtAt source names at it
  unfolding IsStmt stmt_by
  switch-formed names at it s h =
      let subject = then-some (switch_with source inner names at) (enclosed_of source inner.parts names (at + 1)) it h in
      let enclosed = enclosed-formed source inner.parts formed.parts names (at + 1) subject.0 subject.1 in
      let left = where-some _ _ it subject.2 in
      let items = then-some (switch_braced at subject.0) (switch_items source inner (all_turns source) (expr_declares source subject.0 ++ names) ((expr_span subject.0).after + 2)) it left.1 in
      subst (StmtAt source names at) (checked-some _ _ it items.2)
      ((s, enclosed, is-it _ symbol.LeftBrace left.0, switch-items-formed (all_turns source) (expr_declares source subject.0 ++ names) ((expr_span subject.0).after + 2) items.0 items.1, refl), refl)

  while-formed : (names : List Declared) (at : ℕ) (it : Stmt) → symbol_in source names at ≡ symbol.While → stmt_by source inner names at repeating ≡ Some it → StmtAt source names at it
  unfolding IsStmt stmt_by
  while-formed names at it s h =
      let condition = then-some (while_with source inner names at) (enclosed_of source inner.parts names (at + 1)) it h in
      let enclosed = enclosed-formed source inner.parts formed.parts names (at + 1) condition.0 condition.1 in
      let body = then-some (while_behind at condition.0) (inner.stmt (expr_declares source condition.0 ++ names) ((expr_span condition.0).after + 1)) it condition.2 in
      let one = formed.stmt (expr_declares source condition.0 ++ names) ((expr_span condition.0).after + 1) body.0 body.1 in
      subst (StmtAt source names at) (checked-some _ _ it body.2) ((s, enclosed, one.1, one.0, refl), refl)

  do-formed : (names : List Declared) (at : ℕ) (it : Stmt) → symbol_in source names at ≡ symbol.Do → stmt_by source inner names at doing ≡ Some it → StmtAt source names at it
  unfolding IsStmt stmt_by
  do-formed names at it s h =
      let body = then-some (do_with source inner names at) (inner.stmt names (at + 1)) it h in
      let one = formed.stmt names (at + 1) body.0 body.1 in
      let word = where-some _ _ it body.2 in
      let condition = then-some (do_behind source names at body.0) (enclosed_of source inner.parts names ((stmt_span body.0).after + 1)) it word.1 in
      let enclosed = enclosed-formed source inner.parts formed.parts names ((stmt_span body.0).after + 1) condition.0 condition.1 in
      let ends = where-some _ _ it condition.2 in
      subst (StmtAt source names at) (checked-some _ (tree.do_while (span_of at ((expr_span condition.0).after + 2)) body.0 condition.0) it ends.1)
      ((s, one.1, one.0, is-it _ symbol.While word.0, enclosed, is-it _ symbol.Semicolon ends.0, refl), refl)

  start-formed : (names : List Declared) (at : ℕ) (it : ForStart) → start_of source inner names at ≡ Some it → IsStart source names at it
  unfolding start_of IsStart
  start-formed names at it h =
      ⊎_elim
      (λ declares.
      let declaration = map-some tree.declares (declaration_of source inner names at) it declares.1 in
      let one = declaration-formed source inner formed names at declaration.0 declaration.1 in
      subst (IsStart source names at) declaration.2 (one.1, one.0))
      (λ evaluates.
      let expr = then-some (start_with source names at) (optional_of source inner.parts symbol.Semicolon names at) it evaluates.1 in
      let ends = where-some _ _ it expr.2 in
      let made : IsStart source names at (tree.evaluates expr.0) = (optional-formed source inner.parts formed.parts symbol.Semicolon names at expr.0 expr.1, is-it _ symbol.Semicolon ends.0) in
      subst (IsStart source names at) (inside _ _ ends.1) made)
      (branch (begins_specifiers (symbol_in source names at)) _ _ it h)

  for-formed : (names : List Declared) (at : ℕ) (it : Stmt) → symbol_in source names at ≡ symbol.For → stmt_by source inner names at looping ≡ Some it → StmtAt source names at it
  unfolding IsStmt stmt_by
  for-formed names at it s h =
      let left = where-some _ _ it h in
      let start = then-some (for_start source inner names at) (start_of source inner names (at + 2)) it left.1 in
      let started = start-formed names (at + 2) start.0 start.1 in
      let condition = then-some (for_condition source inner names at start.0 (start_after (at + 2) start.0))
      (optional_of source inner.parts symbol.Semicolon (start_declares source start.0 ++ names) (start_after (at + 2) start.0)) it start.2 in
      let tested = optional-formed source inner.parts formed.parts symbol.Semicolon (start_declares source start.0 ++ names) (start_after (at + 2) start.0) condition.0 condition.1 in
      let semicolon = where-some _ _ it condition.2 in
      let step = then-some (for_step source inner names at start.0 condition.0 (optional_after (start_after (at + 2) start.0) condition.0 + 1))
      (optional_of source inner.parts symbol.RightParen (optional_declares source condition.0 ++ (start_declares source start.0 ++ names)) (optional_after (start_after (at + 2) start.0) condition.0 + 1)) it semicolon.1 in
      let stepped = optional-formed source inner.parts formed.parts symbol.RightParen (optional_declares source condition.0 ++ (start_declares source start.0 ++ names)) (optional_after (start_after (at + 2) start.0) condition.0 + 1) step.0 step.1 in
      let right = where-some _ _ it step.2 in
      let body = then-some (for_body at start.0 condition.0 step.0)
      (inner.stmt (optional_declares source step.0 ++ (optional_declares source condition.0 ++ (start_declares source start.0 ++ names))) (optional_after (optional_after (start_after (at + 2) start.0) condition.0 + 1) step.0 + 1)) it right.1 in
      let one = formed.stmt (optional_declares source step.0 ++ (optional_declares source condition.0 ++ (start_declares source start.0 ++ names))) (optional_after (optional_after (start_after (at + 2) start.0) condition.0 + 1) step.0 + 1) body.0 body.1 in
      subst (StmtAt source names at) (checked-some _ _ it body.2)
      ((s, is-it _ symbol.LeftParen left.0, started, tested, is-it _ symbol.Semicolon semicolon.0, stepped, is-it _ symbol.RightParen right.0, one.1, one.0, refl), refl)

  return-formed : (names : List Declared) (at : ℕ) (it : Stmt) → symbol_in source names at ≡ symbol.Return → stmt_by source inner names at returning ≡ Some it → StmtAt source names at it
  unfolding IsStmt stmt_by
  return-formed names at it s h =
      let expr = then-some (return_with source names at) (optional_of source inner.parts symbol.Semicolon names (at + 1)) it h in
      let ends = where-some _ _ it expr.2 in
      subst (StmtAt source names at) (checked-some _ (tree.return (span_of at (optional_after (at + 1) expr.0 + 1)) expr.0) it ends.1)
      ((s, optional-formed source inner.parts formed.parts symbol.Semicolon names (at + 1) expr.0 expr.1, is-it _ symbol.Semicolon ends.0, refl), refl)

  expression-formed : (names : List Declared) (at : ℕ) (it : Stmt) → stmt_by source inner names at evaluating ≡ Some it → StmtAt source names at it
  unfolding IsStmt stmt_by
  expression-formed names at it h =
      let expr = then-some (expression_with source names at) (optional_of source inner.parts symbol.Semicolon names at) it h in
      let ends = where-some _ _ it expr.2 in
      subst (StmtAt source names at) (checked-some _ (tree.expression (span_of at (optional_after at expr.0 + 1)) expr.0) it ends.1)
      ((optional-formed source inner.parts formed.parts symbol.Semicolon names at expr.0 expr.1, is-it _ symbol.Semicolon ends.0, refl), refl)

  stmt-by-formed : (names : List Declared) (at : ℕ) (lead : Lead) (it : Stmt) → LeadIs (symbol_in source names at) lead → stmt_by source inner names at lead ≡ Some it → StmtAt source names at it
  unfolding IsStmt stmt_by
  stmt-by-formed names at opening it s h = block-formed names at it s h
  stmt-by-formed names at choosing it s h = if-formed names at it s h
  stmt-by-formed names at switching it s h = switch-formed names at it s h
  stmt-by-formed names at repeating it s h = while-formed names at it s h
  stmt-by-formed names at doing it s h = do-formed names at it s h
  stmt-by-formed names at looping it s h = for-formed names at it s h
  stmt-by-formed names at breaking it s h =
      let ends = where-some _ _ it h in
      subst (StmtAt source names at) (checked-some _ (tree.break (span_of at (at + 2))) it ends.1) ((s, is-it _ symbol.Semicolon ends.0, refl), refl)
  stmt-by-formed names at continuing it s h =
      let ends = where-some _ _ it h in
      subst (StmtAt source names at) (checked-some _ (tree.continue (span_of at (at + 2))) it ends.1) ((s, is-it _ symbol.Semicolon ends.0, refl), refl)
  stmt-by-formed names at returning it s h = return-formed names at it s h
  stmt-by-formed names at evaluating it s h = expression-formed names at it h

  -- A statement that is read is well formed.
  pub stmt-formed : (names : List Declared) (at : ℕ) (it : Stmt) → stmt_of source inner names at ≡ Some it → StmtAt source names at it
  unfolding stmt_of
  stmt-formed names at it h = stmt-by-formed names at (lead_kind (symbol_in source names at)) it (lead-is (symbol_in source names at)) h

  case-formed : (names : List Declared) (at : ℕ) (it : SwitchItem) → symbol_in source names at ≡ symbol.Case
      → and_then (case_with source inner names at) (inner.parts.expr 2 names (at + 1)) ≡ Some it → LabelledAt source names at it
  unfolding IsSwitchItem
  case-formed names at it s h =
      let label = then-some (case_with source inner names at) (inner.parts.expr 2 names (at + 1)) it h in
      let one = formed.parts.expr 2 names (at + 1) label.0 label.1 in
      let colon = where-some _ _ it label.2 in
      let item = then-some (case_behind at label.0) (inner.labelled (expr_declares source label.0 ++ names) ((expr_span label.0).after + 1)) it colon.1 in
      let last = formed.labelled (expr_declares source label.0 ++ names) ((expr_span label.0).after + 1) item.0 item.1 in
      subst (LabelledAt source names at) (checked-some _ _ it item.2) ((s, one.1, one.0, one.2, is-it _ symbol.Colon colon.0, last.1, last.0, refl), refl)

  default-formed : (names : List Declared) (at : ℕ) (it : SwitchItem) → symbol_in source names at ≡ symbol.Default → symbol_in source names (at + 1) ≡ symbol.Colon
      → and_then (default_behind at) (inner.labelled names (at + 2)) ≡ Some it → LabelledAt source names at it
  unfolding IsSwitchItem
  default-formed names at it s c h =
      let item = then-some (default_behind at) (inner.labelled names (at + 2)) it h in
      let last = formed.labelled names (at + 2) item.0 item.1 in
      subst (LabelledAt source names at) (checked-some _ _ it item.2) ((s, c, last.1, last.0, refl), refl)

  -- A statement with labels that is read is well formed.
  pub labelled-formed : (names : List Declared) (at : ℕ) (it : SwitchItem) → labelled_of source inner names at ≡ Some it → LabelledAt source names at it
  unfolding IsSwitchItem labelled_of
  labelled-formed names at it h =
      ⊎_elim (λ case. case-formed names at it (is-it _ symbol.Case case.0) case.1)
      (λ other.
      ⊎_elim
      (λ default. let colon = where-some _ _ it default.1 in default-formed names at it (is-it _ symbol.Default default.0) (is-it _ symbol.Colon colon.0) colon.1)
      (λ plain.
      let stmt = map-some (unlabelled_with at) (stmt_of source inner names at) it plain.1 in
      let one = stmt-formed names at stmt.0 stmt.1 in
      subst (LabelledAt source names at) stmt.2 ((one.1, one.0, refl), refl))
      (branch (stands source names at symbol.Default) _ _ it other.1))
      (branch (stands source names at symbol.Case) _ _ it h)
