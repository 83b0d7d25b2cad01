-- Statements that are put together of parts.
use Rattle.std.proofs.Common.{◌≡◌, ◌≤◌, ◌<◌, ℕ, ◌+◌, List, ◌++◌, length, map, max, true, Option, Some, None, option_map, nat_le, refl, sym, ap, ◌∙◌, arith, lit≤, append_assoc, if◌then◌else◌}
use Rattle.dm_token.specs.Limits.{greatest_height}
use Rattle.dm_syn.specs.declared.declared.Declared.{Declared}
use Rattle.dm_syn.specs.declared.expression.Expr.{Expr}
use Rattle.dm_syn.specs.declared.statement.Stmt.{Stmt}
use Rattle.dm_syn.specs.declared.statement.ForStart.{ForStart}
use Rattle.dm_syn.specs.declared.statement.Item.{Item}
use Rattle.dm_syn.specs.declared.statement.Item.TheVariants as block_form
use Rattle.dm_syn.specs.declared.declaration.Declaration.{Declaration}
use Rattle.dm_syn.specs.declared.statement.SwitchItem.{SwitchItem}
use Rattle.dm_syn.specs.declared.statement.SwitchForm.{SwitchForm}
use Rattle.dm_syn.specs.declared.statement.SwitchForm.TheVariants as label_form
use Rattle.dm_syn.specs.declared.symbol.Symbol.TheVariants as symbol
use Rattle.dm_syn.specs.declared.statement.StmtForm.{StmtForm}
use Rattle.dm_syn.specs.declared.statement.StmtForm.TheVariants as form
use Rattle.dm_syn.specs.Sources.{Source}
use Rattle.dm_syn.specs.Trees as tree
use Rattle.dm_syn.specs.Spans.{stmt_span, switch_item_span, switch_items_after}
use Rattle.dm_syn.specs.Heights.{expr_height, optional_height, start_height, stmt_height, block_item_height, switch_items_height, switch_item_height, above}
use Rattle.dm_syn.specs.Scopes.{expr_declares, optional_declares, start_declares, stmt_declares, block_item_declares, switch_item_declares}
use Rattle.dm_syn.specs.Statements.{optional_after}
use Rattle.dm_syn.specs.Views as view
use Rattle.dm_pexpr.specs.declared.part.Part.{Part}
use Rattle.dm_pexpr.specs.Parsing.{span_of, and_then}
use Rattle.dm_pexpr.specs.Counted.{most_counted}
use Rattle.dm_pexpr.specs.Parts.{IsPart, Gives, an_expr}
use Rattle.dm_pexpr.proofs.Expressions.{holds}
use Rattle.dm_pexpr.proofs.PartLemmas.{made-gives, part-of, part-is}
use Rattle.dm_pstmt.specs.Kinds.{a_declaration, a_stmt, a_labelled, a_block_item, an_optional, a_start, block_items_from, switch_items_from, clauses_from, seen_clauses}
use Rattle.dm_pstmt.specs.Parsing.{stands, checked_stmt, checked_item, expression_with, return_with, jump, block_with, if_only_behind, else_with, while_behind, do_behind, switch_braced, case_behind, default_behind, unlabelled_with}
use Rattle.dm_pstmt.specs.Steps.{Clauses, with_step, clauses_height, looping_over}
use Rattle.dm_pstmt.specs.declared.nodes.ForClauses.{ForClauses}
use Rattle.dm_pstmt.proofs.ViewLemmas.{view-block, view-while, view-if_only, view-if_else, view-expression, view-return, view-break, view-continue, view-do, view-switch, view-for, view-case, view-default, view-unlabelled, view-declared, view-stated}
use Rattle.dm_pstmt.proofs.Wholes.{pass-part}

-- what a node of the code is
abbrev pub made_node : ℕ → ℕ → ℕ → StmtForm → Option (Part Stmt)
made_node first after height it = if nat_le height greatest_height then Some (record { tree = record { span = record { first = first; after = after }; form = it }; height = height; after = after }) else None

-- the node of a statement
pub node-gives : (source : Source) (before now : List Declared) (made : Option (Part Stmt)) (first after height : ℕ) (it : StmtForm) (whole : tree.Stmt) (wanted : Option tree.Stmt)
    → made ≡ made_node first after height it
    → wanted ≡ checked_stmt whole
    → view.stmt (record { span = record { first = first; after = after }; form = it }) ≡ whole → height ≡ stmt_height whole → after ≡ (stmt_span whole).after
    → after ≤ length source.tokens → now ≡ stmt_declares source whole ++ before
    → Gives (a_stmt source) source before now made wanted
node-gives source before now made first after height it whole wanted node wants seen high ends within scoped =
    made-gives (a_stmt source) source before now made _ height after whole wanted node wants seen refl high ends within scoped (lit≤ tt)

pub block-made : (source : Source) (before behind : List Declared) (items : Part (List Item)) (wanted : Option tree.BlockItems) (first after height : ℕ) (made : Option (Part Stmt))
    → IsPart (block_items_from source (first + 1)) source before behind items wanted → after ≡ items.after + 1 → after ≤ length source.tokens
    → (items.height < most_counted → height ≡ items.height + 1) → made ≡ made_node first after height (form.Block items.tree)
    → Gives (a_stmt source) source before before made (and_then (block_with first) wanted)
unfolding stmt_height stmt_declares
block-made source before behind items wanted first after height made g end within high node =
    let v : tree.BlockItems = view.block_items (map view.block_item items.tree) in
    node-gives source before before made first after height (form.Block items.tree) (tree.block (span_of first after) v) _ node
    (ap (and_then (block_with first)) g.read ∙ ap (λ n. checked_stmt (tree.block (span_of first n) v)) (sym (end ∙ ap (λ n. n + 1) g.ends)))
    (view-block _ items.tree) (high (omega (arith, g.low)) ∙ ap (λ n. n + 1) g.high) refl within refl

pub while-made : (source : Source) (before names behind : List Declared) (condition : Part Expr) (read : Option tree.Expr) (found : Option (Part Stmt)) (body : Part Stmt) (wanted : Option tree.Stmt) → found ≡ Some body
    → IsPart (an_expr source) source before names condition read → Gives (a_stmt source) source names behind found wanted
    → (first height : ℕ) (boxed : Stmt) (made : Option (Part Stmt))
    → boxed ≡ body.tree → (condition.height < most_counted → body.height < most_counted → height ≡ above condition.height body.height) → made ≡ made_node first body.after height (form.While condition.tree boxed)
    → Gives (a_stmt source) source before before made (and_then (while_behind first (view.expr condition.tree)) wanted)
unfolding stmt_height stmt_declares
while-made source before names behind condition read found body wanted there k given first height boxed made same high node =
    let g = part-of (a_stmt source) source names behind found body wanted there given in
    let c : tree.Expr = view.expr condition.tree in
    let v : tree.Stmt = view.stmt body.tree in
    node-gives source before before made first body.after height (form.While condition.tree boxed) (tree.while (span_of first body.after) c v) _ node
    (ap (and_then (while_behind first c)) g.read ∙ ap (λ n. checked_stmt (tree.while (span_of first n) c v)) (sym g.ends))
    (view-while _ condition.tree boxed ∙ ap (λ e. tree.while (span_of first body.after) c (view.stmt e)) same)
    (high (omega (arith, k.low)) (omega (arith, g.low)) ∙ ap (λ n. above n body.height) k.high ∙ ap (above (expr_height c)) g.high) refl g.within refl

pub if-only-made : (source : Source) (before names behind : List Declared) (condition : Part Expr) (read : Option tree.Expr) (body : Part Stmt) (seen : Option tree.Stmt)
    → IsPart (an_expr source) source before names condition read → IsPart (a_stmt source) source names behind body seen
    → (first height : ℕ) (boxed : Stmt) (made : Option (Part Stmt))
    → boxed ≡ body.tree → (condition.height < most_counted → body.height < most_counted → height ≡ above condition.height body.height) → made ≡ made_node first body.after height (form.If condition.tree boxed None)
    → Gives (a_stmt source) source before before made (if_only_behind first (view.expr condition.tree) (view.stmt body.tree))
unfolding stmt_height stmt_declares
if-only-made source before names behind condition read body seen k g first height boxed made same high node =
    let c : tree.Expr = view.expr condition.tree in
    let v : tree.Stmt = view.stmt body.tree in
    node-gives source before before made first body.after height (form.If condition.tree boxed None) (tree.if_only (span_of first body.after) c v) _ node
    (ap (λ n. checked_stmt (tree.if_only (span_of first n) c v)) (sym g.ends))
    (view-if_only _ condition.tree boxed ∙ ap (λ e. tree.if_only (span_of first body.after) c (view.stmt e)) same)
    (high (omega (arith, k.low)) (omega (arith, g.low)) ∙ ap (λ n. above n body.height) k.high ∙ ap (above (expr_height c)) g.high) refl g.within refl

pub if-else-made : (source : Source) (before names behind last : List Declared) (condition : Part Expr) (read : Option tree.Expr) (body : Part Stmt) (seen : Option tree.Stmt)
    (found : Option (Part Stmt)) (other : Part Stmt) (wanted : Option tree.Stmt) → found ≡ Some other
    → IsPart (an_expr source) source before names condition read → IsPart (a_stmt source) source names behind body seen → Gives (a_stmt source) source names last found wanted
    → (first height : ℕ) (one two : Stmt) (made : Option (Part Stmt))
    → one ≡ body.tree → two ≡ other.tree → (condition.height < most_counted → max body.height other.height < most_counted → height ≡ above condition.height (max body.height other.height))
    → made ≡ made_node first other.after height (form.If condition.tree one (Some two))
    → Gives (a_stmt source) source before before made (and_then (else_with first (view.expr condition.tree) (view.stmt body.tree)) wanted)
unfolding stmt_height stmt_declares
if-else-made source before names behind last condition read body seen found other wanted there k b given first height one two made same alike high node =
    let g = part-of (a_stmt source) source names last found other wanted there given in
    let c : tree.Expr = view.expr condition.tree in
    let v : tree.Stmt = view.stmt body.tree in
    let w : tree.Stmt = view.stmt other.tree in
    node-gives source before before made first other.after height (form.If condition.tree one (Some two)) (tree.if_else (span_of first other.after) c v w) _ node
    (ap (and_then (else_with first c v)) g.read ∙ ap (λ n. checked_stmt (tree.if_else (span_of first n) c v w)) (sym g.ends))
    (view-if_else _ condition.tree one two ∙ ap (λ e. tree.if_else (span_of first other.after) c (view.stmt e) (view.stmt two)) same ∙ ap (λ e. tree.if_else (span_of first other.after) c v (view.stmt e)) alike)
    (high (omega (arith, k.low)) (omega (arith, b.low, g.low)) ∙ ap (λ n. above n (max body.height other.height)) k.high
    ∙ ap (λ n. above (expr_height c) (max n other.height)) b.high ∙ ap (λ n. above (expr_height c) (max (stmt_height v) n)) g.high) refl g.within refl

pub do-made : (source : Source) (before behind names : List Declared) (body : Part Stmt) (seen : Option tree.Stmt) (condition : Part Expr) (read : Option tree.Expr)
    → IsPart (a_stmt source) source before behind body seen → IsPart (an_expr source) source before names condition read
    → stands source before (condition.after + 1) symbol.Semicolon ≡ true
    → (first after height : ℕ) (boxed : Stmt) (made : Option (Part Stmt)) → after ≡ condition.after + 2 → after ≤ length source.tokens
    → boxed ≡ body.tree → (body.height < most_counted → condition.height < most_counted → height ≡ above body.height condition.height) → made ≡ made_node first after height (form.Do boxed condition.tree)
    → Gives (a_stmt source) source before before made (do_behind source before first (view.stmt body.tree) (view.expr condition.tree))
unfolding stmt_height stmt_declares
do-made source before behind names body seen condition read b k test first after height boxed made end within same high node =
    let c : tree.Expr = view.expr condition.tree in
    let v : tree.Stmt = view.stmt body.tree in
    node-gives source before before made first after height (form.Do boxed condition.tree) (tree.do_while (span_of first after) v c) _ node
    (holds _ _ (ap (λ n. stands source before (n + 1) symbol.Semicolon) (sym k.ends) ∙ test) ∙ ap (λ n. checked_stmt (tree.do_while (span_of first n) v c)) (sym (end ∙ ap (λ n. n + 2) k.ends)))
    (view-do _ boxed condition.tree ∙ ap (λ e. tree.do_while (span_of first after) (view.stmt e) c) same)
    (high (omega (arith, b.low)) (omega (arith, k.low)) ∙ ap (λ n. above n condition.height) b.high ∙ ap (above (stmt_height v)) k.high) refl within refl

pub switch-made : (source : Source) (before names behind : List Declared) (subject : Part Expr) (read : Option tree.Expr) (items : Part (List SwitchItem)) (wanted : Option tree.SwitchItems)
    → IsPart (an_expr source) source before names subject read → IsPart (switch_items_from source (subject.after + 2)) source names behind items wanted
    → (first after height inside : ℕ) (made : Option (Part Stmt)) → after ≡ items.after + 1 → after ≤ length source.tokens
    → (items.height < most_counted → inside ≡ items.height + 1) → (subject.height < most_counted → inside < most_counted → height ≡ above subject.height inside) → made ≡ made_node first after height (form.Switch subject.tree items.tree)
    → Gives (a_stmt source) source before before made (and_then (switch_braced first (view.expr subject.tree)) wanted)
unfolding stmt_height stmt_declares
switch-made source before names behind subject read items wanted k g first after height inside made end within deep high node =
    let c : tree.Expr = view.expr subject.tree in
    let v : tree.SwitchItems = view.switch_items (map view.switch_item items.tree) in
    let deeper : inside ≡ items.height + 1 = deep (omega (arith, g.low)) in
    let taller : inside ≡ switch_items_height v + 1 = deeper ∙ ap (λ n. n + 1) g.high in
    node-gives source before before made first after height (form.Switch subject.tree items.tree) (tree.switch (span_of first after) c v) _ node
    (ap (and_then (switch_braced first c)) g.read
    ∙ ap (λ n. checked_stmt (tree.switch (span_of first n) c v)) (sym (end ∙ ap (λ n. n + 1) g.ends ∙ ap (λ n. switch_items_after (n + 2) v + 1) k.ends)))
    (view-switch _ subject.tree items.tree)
    (high (omega (arith, k.low)) (omega (arith, deeper, g.low)) ∙ ap (λ n. above n inside) k.high ∙ ap (above (expr_height c)) taller) refl within refl

-- the clauses of a `for`
pub clauses-made : (source : Source) (before one two three : List Declared) (at : ℕ) (start : Part ForStart) (begun : Option tree.ForStart) (condition : Part (Option Expr)) (tested : Option (Option tree.Expr))
    (step : Part (Option Expr)) (stepped : Option (Option tree.Expr))
    → IsPart (a_start source at) source before one start begun → IsPart (an_optional source start.after) source one two condition tested → IsPart (an_optional source (condition.after + 1)) source two three step stepped
    → (height after : ℕ) (inner : ForStart) (own : ForClauses) → inner ≡ start.tree → own ≡ record { start = inner; condition = condition.tree; step = step.tree } → height ≡ max (max start.height condition.height) step.height
    → after ≡ step.after + 1 → after ≤ length source.tokens
    → IsPart (clauses_from source at) source before three (record { tree = own; height = height; after = after }) (option_map (with_step (view.start start.tree) (view.optional condition.tree)) stepped)
clauses-made source before one two three at start begun condition tested step stepped s k t height after inner own same is high end within =
    let b : tree.ForStart = view.start start.tree in
    let c : Option tree.Expr = view.optional condition.tree in
    let e : Option tree.Expr = view.optional step.tree in
    part-is (clauses_from source at) source before three own height after (with_step b c e) _ (ap (option_map (with_step b c)) t.read) (ap seen_clauses is ∙ ap (λ it. with_step (view.start it) c e) same) refl
    (high ∙ ap (λ n. max (max n condition.height) step.height) s.high ∙ ap (λ n. max (max (start_height b) n) step.height) k.high ∙ ap (max (max (start_height b) (optional_height c))) t.high)
    (omega (arith, high, s.low, k.low, t.low))
    (end ∙ ap (λ n. n + 1) (t.ends ∙ ap (λ n. optional_after (n + 1) e) (k.ends ∙ ap (λ n. optional_after n c) s.ends))) within
    (t.scoped ∙ ap (λ those. optional_declares source e ++ those)
    (k.scoped ∙ ap (λ those. optional_declares source c ++ those) s.scoped ∙ sym (append_assoc (optional_declares source c) (start_declares source b) before))
    ∙ sym (append_assoc (optional_declares source e) (optional_declares source c ++ start_declares source b) before))

above-three : (one two three four : ℕ) → above (max (max one two) three) four ≡ above (max one two) (max three four)
above-three one two three four = omega arith

pub for-made : (source : Source) (before names behind : List Declared) (at : ℕ) (clauses : Part ForClauses) (read : Option Clauses) (found : Option (Part Stmt)) (body : Part Stmt) (wanted : Option tree.Stmt) → found ≡ Some body
    → IsPart (clauses_from source at) source before names clauses read → Gives (a_stmt source) source names behind found wanted
    → (first height : ℕ) (own : ForClauses) (boxed : Stmt) (made : Option (Part Stmt)) → own ≡ clauses.tree → boxed ≡ body.tree
    → (clauses.height < most_counted → body.height < most_counted → height ≡ above clauses.height body.height) → made ≡ made_node first body.after height (form.For own.start own.condition own.step boxed)
    → Gives (a_stmt source) source before before made (and_then (looping_over first (seen_clauses clauses.tree)) wanted)
unfolding stmt_height stmt_declares
for-made source before names behind at clauses read found body wanted there h given first height own boxed made mine same high node =
    let g = part-of (a_stmt source) source names behind found body wanted there given in
    let l : Clauses = seen_clauses clauses.tree in
    let v : tree.Stmt = view.stmt body.tree in
    node-gives source before before made first body.after height (form.For own.start own.condition own.step boxed) (tree.for_loop (span_of first body.after) l.start l.condition l.step v) _ node
    (ap (and_then (looping_over first l)) g.read ∙ ap (λ n. checked_stmt (tree.for_loop (span_of first n) l.start l.condition l.step v)) (sym g.ends))
    (view-for _ own.start own.condition own.step boxed ∙ ap (λ it. tree.for_loop (span_of first body.after) (view.start own.start) (view.optional own.condition) (view.optional own.step) (view.stmt it)) same
    ∙ ap (λ it. tree.for_loop (span_of first body.after) (view.start it.start) (view.optional it.condition) (view.optional it.step) v) mine)
    (high (omega (arith, h.low)) (omega (arith, g.low)) ∙ ap (λ n. above n body.height) h.high ∙ ap (above (clauses_height l)) g.high
    ∙ above-three (start_height l.start) (optional_height l.condition) (optional_height l.step) (stmt_height v)) refl g.within refl

pub expression-made : (source : Source) (before names : List Declared) (value : Part (Option Expr)) (wanted : Option (Option tree.Expr)) (first after height : ℕ) (made : Option (Part Stmt))
    → IsPart (an_optional source first) source before names value wanted → stands source names value.after symbol.Semicolon ≡ true → after ≡ value.after + 1 → after ≤ length source.tokens
    → (value.height < most_counted → height ≡ value.height + 1) → made ≡ made_node first after height (form.Expression value.tree)
    → Gives (a_stmt source) source before names made (and_then (expression_with source before first) wanted)
unfolding stmt_height stmt_declares
expression-made source before names value wanted first after height made g test end within high node =
    let v : Option tree.Expr = view.optional value.tree in
    let there : stands source (optional_declares source v ++ before) (optional_after first v) symbol.Semicolon ≡ true = cc (g.scoped, g.ends, test) in
    node-gives source before names made first after height (form.Expression value.tree) (tree.expression (span_of first after) v) _ node
    (ap (and_then (expression_with source before first)) g.read ∙ holds _ _ there ∙ ap (λ n. checked_stmt (tree.expression (span_of first n) v)) (sym (end ∙ ap (λ n. n + 1) g.ends)))
    (view-expression _ value.tree) (high (omega (arith, g.low)) ∙ ap (λ n. n + 1) g.high) refl within g.scoped

pub return-made : (source : Source) (before names : List Declared) (value : Part (Option Expr)) (wanted : Option (Option tree.Expr)) (first after height : ℕ) (made : Option (Part Stmt))
    → IsPart (an_optional source (first + 1)) source before names value wanted → stands source names value.after symbol.Semicolon ≡ true → after ≡ value.after + 1 → after ≤ length source.tokens
    → (value.height < most_counted → height ≡ value.height + 1) → made ≡ made_node first after height (form.Return value.tree)
    → Gives (a_stmt source) source before names made (and_then (return_with source before first) wanted)
unfolding stmt_height stmt_declares
return-made source before names value wanted first after height made g test end within high node =
    let v : Option tree.Expr = view.optional value.tree in
    let there : stands source (optional_declares source v ++ before) (optional_after (first + 1) v) symbol.Semicolon ≡ true = cc (g.scoped, g.ends, test) in
    node-gives source before names made first after height (form.Return value.tree) (tree.return (span_of first after) v) _ node
    (ap (and_then (return_with source before first)) g.read ∙ holds _ _ there ∙ ap (λ n. checked_stmt (tree.return (span_of first n) v)) (sym (end ∙ ap (λ n. n + 1) g.ends)))
    (view-return _ value.tree) (high (omega (arith, g.low)) ∙ ap (λ n. n + 1) g.high) refl within g.scoped

pub break-made : (source : Source) (before : List Declared) (first after : ℕ) (made : Option (Part Stmt)) → stands source before (first + 1) symbol.Semicolon ≡ true → after ≡ first + 2 → after ≤ length source.tokens
    → made ≡ made_node first after 1 form.Break → Gives (a_stmt source) source before before made (jump source before first (tree.break (span_of first (first + 2))))
unfolding stmt_height stmt_declares
break-made source before first after made test end within node =
    node-gives source before before made first after 1 form.Break (tree.break (span_of first after)) _ node
    (holds _ _ test ∙ ap (λ n. checked_stmt (tree.break (span_of first n))) (sym end)) (view-break _) refl refl within refl

pub continue-made : (source : Source) (before : List Declared) (first after : ℕ) (made : Option (Part Stmt)) → stands source before (first + 1) symbol.Semicolon ≡ true → after ≡ first + 2 → after ≤ length source.tokens
    → made ≡ made_node first after 1 form.Continue → Gives (a_stmt source) source before before made (jump source before first (tree.continue (span_of first (first + 2))))
unfolding stmt_height stmt_declares
continue-made source before first after made test end within node =
    node-gives source before before made first after 1 form.Continue (tree.continue (span_of first after)) _ node
    (holds _ _ test ∙ ap (λ n. checked_stmt (tree.continue (span_of first n))) (sym end)) (view-continue _) refl refl within refl

-- what a node of the code is, with labels
abbrev pub made_label : ℕ → ℕ → ℕ → SwitchForm → Option (Part SwitchItem)
made_label first after height it = if nat_le height greatest_height then Some (record { tree = record { span = record { first = first; after = after }; form = it }; height = height; after = after }) else None

label-gives : (source : Source) (before now : List Declared) (made : Option (Part SwitchItem)) (first after height : ℕ) (it : SwitchForm) (whole : tree.SwitchItem) (wanted : Option tree.SwitchItem)
    → made ≡ made_label first after height it
    → wanted ≡ checked_item whole
    → view.switch_item (record { span = record { first = first; after = after }; form = it }) ≡ whole → height ≡ switch_item_height whole → after ≡ (switch_item_span whole).after
    → after ≤ length source.tokens → now ≡ switch_item_declares source whole ++ before
    → Gives (a_labelled source) source before now made wanted
label-gives source before now made first after height it whole wanted node wants seen high ends within scoped =
    made-gives (a_labelled source) source before now made _ height after whole wanted node wants seen refl high ends within scoped (lit≤ tt)

pub case-made : (source : Source) (before names now : List Declared) (label : Part Expr) (read : Option tree.Expr) (found : Option (Part SwitchItem)) (item : Part SwitchItem) (wanted : Option tree.SwitchItem) → found ≡ Some item
    → IsPart (an_expr source) source before names label read → Gives (a_labelled source) source names now found wanted
    → (first height : ℕ) (boxed : SwitchItem) (made : Option (Part SwitchItem))
    → boxed ≡ item.tree → (label.height < most_counted → item.height < most_counted → height ≡ above label.height item.height) → made ≡ made_label first item.after height (label_form.Case label.tree boxed)
    → Gives (a_labelled source) source before now made (and_then (case_behind first (view.expr label.tree)) wanted)
unfolding switch_item_height switch_item_declares
case-made source before names now label read found item wanted there k given first height boxed made same high node =
    let g = part-of (a_labelled source) source names now found item wanted there given in
    let c : tree.Expr = view.expr label.tree in
    let v : tree.SwitchItem = view.switch_item item.tree in
    label-gives source before now made first item.after height (label_form.Case label.tree boxed) (tree.case (span_of first item.after) c v) _ node
    (ap (and_then (case_behind first c)) g.read ∙ ap (λ n. checked_item (tree.case (span_of first n) c v)) (sym g.ends))
    (view-case _ label.tree boxed ∙ ap (λ e. tree.case (span_of first item.after) c (view.switch_item e)) same)
    (high (omega (arith, k.low)) (omega (arith, g.low)) ∙ ap (λ n. above n item.height) k.high ∙ ap (above (expr_height c)) g.high) refl g.within
    (g.scoped ∙ ap (λ ns. switch_item_declares source v ++ ns) k.scoped ∙ sym (append_assoc (switch_item_declares source v) (expr_declares source c) before))

pub default-made : (source : Source) (before now : List Declared) (found : Option (Part SwitchItem)) (item : Part SwitchItem) (wanted : Option tree.SwitchItem) → found ≡ Some item
    → Gives (a_labelled source) source before now found wanted
    → (first height : ℕ) (boxed : SwitchItem) (made : Option (Part SwitchItem))
    → boxed ≡ item.tree → (item.height < most_counted → height ≡ item.height + 1) → made ≡ made_label first item.after height (label_form.Default boxed)
    → Gives (a_labelled source) source before now made (and_then (default_behind first) wanted)
unfolding switch_item_height switch_item_declares
default-made source before now found item wanted there given first height boxed made same high node =
    let g = part-of (a_labelled source) source before now found item wanted there given in
    let v : tree.SwitchItem = view.switch_item item.tree in
    label-gives source before now made first item.after height (label_form.Default boxed) (tree.default (span_of first item.after) v) _ node
    (ap (and_then (default_behind first)) g.read ∙ ap (λ n. checked_item (tree.default (span_of first n) v)) (sym g.ends))
    (view-default _ boxed ∙ ap (λ e. tree.default (span_of first item.after) (view.switch_item e)) same)
    (high (omega (arith, g.low)) ∙ ap (λ n. n + 1) g.high) refl g.within g.scoped

pub unlabelled-made : (source : Source) (before behind : List Declared) (found : Option (Part Stmt)) (part : Part Stmt) (wanted : Option tree.Stmt) → found ≡ Some part → Gives (a_stmt source) source before behind found wanted
    → (first : ℕ) → IsPart (a_labelled source) source before behind
    (record { tree = record { span = record { first = first; after = part.after }; form = label_form.Statement part.tree }; height = part.height; after = part.after }) (option_map (unlabelled_with first) wanted)
unfolding switch_item_height switch_item_declares
unlabelled-made source before behind found part wanted there given first =
    let g = part-of (a_stmt source) source before behind found part wanted there given in
    let v : tree.Stmt = view.stmt part.tree in
    pass-part (a_stmt source) (a_labelled source) source before behind part wanted (unlabelled_with first)
    (record { tree = record { span = record { first = first; after = part.after }; form = label_form.Statement part.tree }; height = part.height; after = part.after }) g
    (view-unlabelled _ part.tree ∙ ap (λ n. tree.unlabelled (span_of first n) v) g.ends) refl refl refl refl refl refl (lit≤ tt)

pub stated-made : (source : Source) (before behind : List Declared) (found : Option (Part Stmt)) (part : Part Stmt) (wanted : Option tree.Stmt) → found ≡ Some part → Gives (a_stmt source) source before behind found wanted
    → IsPart (a_block_item source) source before behind (record { tree = block_form.Statement part.tree; height = part.height; after = part.after }) (option_map tree.stated_item wanted)
unfolding block_item_height block_item_declares
stated-made source before behind found part wanted there given =
    let g = part-of (a_stmt source) source before behind found part wanted there given in
    pass-part (a_stmt source) (a_block_item source) source before behind part wanted tree.stated_item (record { tree = block_form.Statement part.tree; height = part.height; after = part.after }) g
    (view-stated part.tree) refl refl refl refl refl refl (lit≤ tt)

pub declared-item-made : (source : Source) (before behind : List Declared) (found : Option (Part Declaration)) (part : Part Declaration) (wanted : Option tree.Declaration) → found ≡ Some part
    → Gives (a_declaration source) source before behind found wanted
    → IsPart (a_block_item source) source before behind (record { tree = block_form.Declaration part.tree; height = part.height; after = part.after }) (option_map tree.declared_item wanted)
unfolding block_item_height block_item_declares
declared-item-made source before behind found part wanted there given =
    let g = part-of (a_declaration source) source before behind found part wanted there given in
    pass-part (a_declaration source) (a_block_item source) source before behind part wanted tree.declared_item (record { tree = block_form.Declaration part.tree; height = part.height; after = part.after }) g
    (view-declared part.tree) refl refl refl refl refl refl (lit≤ tt)
