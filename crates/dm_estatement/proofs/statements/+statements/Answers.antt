-- Each step of the cycle gives what the definition does: the calls in their order, and what is left behind each.
use Rattle.std.specs.Prelude.{◌+◌, List, [], ◌∷◌, ◌++◌, length, map, drop, None, option_map, is_some, refl}
use Rattle.std.specs.FinMap as finite
use Rattle.std.proofs.Common.{rules, arith, sym, ap, ap₂, ◌∙◌, subst}
use Rattle.std.proofs.lemmas.List.{map-append}
use Rattle.std.proofs.lemmas.List.Elements.{All-nil, All-push}
use Rattle.dm_type.specs.declared.shape.Shape.{Shape}
use Rattle.dm_type.specs.Tables.{Table}
use Rattle.dm_syn.specs.declared.statement.Stmt as q
use Rattle.dm_syn.specs.Trees as tree
use Rattle.dm_syn.specs.Views as syntax
use Rattle.dm_tree.specs.declared.tree.Core.{Core}
use Rattle.dm_tree.specs.Trees as label
use Rattle.dm_tree.specs.TypeNumbers.{are_known, all_pass, passes_if_there}
use Rattle.dm_typing.specs.Fitting.{IsNumbered, AreNumbered}
use Rattle.dm_typing.specs.Views.{view_over, source_of, setting_of}
use Rattle.dm_typing.proofs.LaterLemmas.{begins-on, known-later, trees-later, trees-known}
use Rattle.dm_edecl.specs.Standing.{Standing, goes_on}
use Rattle.dm_edecl.specs.Statements.{statement, typed_items_in, typed_item_in, typed_switch_items}
use Rattle.dm_estanding.proofs.ProceedingLemmas.{starts, restated, done, relays, runs-out, alike, scope-open}
use Rattle.dm_estatement.specs.declared.labels.Labels.{Labels}
use Rattle.dm_estatement.specs.Parts.{within_over, WithinFits, optional_over, OptionalFits, trees_over, labels_of, labelled_over, LabelledFits, all_over, AllFit, other_part, choice_inside, stmt_inside}
use Rattle.dm_estatement.proofs.CallLemmas.{same-begins, default-fails}
use Rattle.dm_estatement.proofs.StageLemmas.{only-fails, only-dry, only-made, first-fails, next-fails, both-dry, both-made, one-fails, two-fails, three-fails, all-dry, all-made, call-fails, call-passes, call-starves}
use Rattle.dm_estatement.proofs.StatementCalls.{block-call, choice-calls, other-call, switch-calls, while-calls, do-calls, for-calls, item-call, items-done, switch-item-call, switch-items-done, item-behind-call, case-calls, default-call, unlabelled-call, labelled-as, switch-inside, stmt-as, own-fails, own-ends}
use Rattle.dm_estatement.proofs.NodeLemmas.{within-later, loop-fits, switch-fits, statement-is, one-fits, two-fit, three-fit, four-fit, optional-passes, optional-later, for-is-there}
use Rattle.dm_estatement.proofs.StepLemmas.{scope-is, plain-is, inside-if, behind_these, behind-none, declared-item, stated-item, behind_all, all-none, unlabelled, default-again}
use Rattle.dm_estatement.proofs.ViewLemmas.{view-block, view-expression, view-if, view-switch, view-while, view-do, view-for, view-break, view-continue, view-return, view-case, view-default, view-declared, view-stated}
use Rattle.dm_estatement.proofs.statements.+statements.Goals as goal

pub typed_stmt-returns-then-opens_scope : goal.typed_stmt-returns-then-opens_scope
typed_stmt-returns-then-opens_scope t c =
    alike IsNumbered view_over (source_of c.args.typer.now) c.args.standing.now c.own_scope.new.standing _ _
    (λ later before stands lawful. scope-is (setting_of c.args.typer.now) (within_over later c.args.within.now) before (syntax.stmt c.args.stmt.now) (sym c.opens_scope.ensures ∙ c.if-opens_scope.true)) c.own_scope.result c.own_scope.ensures

pub typed_stmt-returns-else-opens_scope : goal.typed_stmt-returns-else-opens_scope
typed_stmt-returns-else-opens_scope t c =
    alike IsNumbered view_over (source_of c.args.typer.now) c.args.standing.now c.stmt_inside.new.standing _ _
    (λ later before stands lawful. plain-is (setting_of c.args.typer.now) (within_over later c.args.within.now) before (syntax.stmt c.args.stmt.now) (sym c.opens_scope.ensures ∙ c.if-opens_scope.false)) c.stmt_inside.result c.stmt_inside.ensures

pub own_scope-returns-in_err-mark : goal.own_scope-returns-in_err-mark
own_scope-returns-in_err-mark t c =
    runs-out IsNumbered view_over (source_of c.args.typer.now) c.args.standing.now c.open.new.self _ c.from_residual.result (same-begins c.args.standing.now.known.types c.open.new.self.known.types c.open.ensures.types) c.from_residual.ensures.1

pub own_scope-stmt_inside-requires : goal.own_scope-stmt_inside-requires
own_scope-stmt_inside-requires t c =
    (search (rules, arith, q.the_lemmas), subst (λ (types : Table). WithinFits types c.args.within.now) (sym c.open.ensures.types) c.requires)

pub own_scope-returns-in_err-made : goal.own_scope-returns-in_err-made
own_scope-returns-in_err-made t c =
    own-fails c.in_ok-mark.ensures.opens (λ later before stands. c.in_ok-mark.ensures.opened later before stands) c.in_err-made.ensures c.from_residual-in_err-made.ensures.1

pub own_scope-close-requires : goal.own_scope-close-requires
own_scope-close-requires t c =
    scope-open c.args.standing.now c.open.new.self c.stmt_inside.new.standing finite.empty c.in_ok-mark.ensures.scopes c.in_ok-mark.ensures.outside c.in_ok-made.ensures.within

pub own_scope-returns : goal.own_scope-returns
own_scope-returns t c =
    let old = c.args.standing.now in
    let opens = c.in_ok-mark.ensures.opens in
    let inside = c.in_ok-made.ensures.within in
    own-ends opens (λ later before stands. c.in_ok-mark.ensures.opened later before stands) c.in_ok-made.ensures c.close.ensures.types
    (c.close.ensures.around old c.open.new.self opens inside c.in_ok-mark.ensures.declared c.in_ok-mark.ensures.retyped)
    (λ later on before within stands then_stands. c.close.ensures.closed old c.open.new.self opens inside c.in_ok-mark.ensures.declared c.in_ok-mark.ensures.retyped later on before within stands then_stands)

pub part-returns-in_err-opened : goal.part-returns-in_err-opened
part-returns-in_err-opened t c =
    runs-out IsNumbered view_over (source_of c.args.typer.now) c.args.standing.now c.open.new.self _ c.from_residual.result (same-begins c.args.standing.now.known.types c.open.new.self.known.types c.open.ensures.types) c.from_residual.ensures.1

pub part-typed_stmt-requires : goal.part-typed_stmt-requires
part-typed_stmt-requires t c =
    (search (rules, arith, q.the_lemmas), subst (λ (types : Table). WithinFits types c.args.within.now) (sym c.open.ensures.types) c.requires)

pub part-returns-in_err-made : goal.part-returns-in_err-made
part-returns-in_err-made t c =
    own-fails c.in_ok-opened.ensures.opens (λ later before stands. c.in_ok-opened.ensures.opened later before stands) c.in_err-made.ensures c.from_residual-in_err-made.ensures.1

pub part-close-requires : goal.part-close-requires
part-close-requires t c =
    scope-open c.args.standing.now c.open.new.self c.typed_stmt.new.standing finite.empty c.in_ok-opened.ensures.scopes c.in_ok-opened.ensures.outside c.in_ok-made.ensures.within

pub part-returns : goal.part-returns
part-returns t c =
    let old = c.args.standing.now in
    let opens = c.in_ok-opened.ensures.opens in
    let inside = c.in_ok-made.ensures.within in
    own-ends opens (λ later before stands. c.in_ok-opened.ensures.opened later before stands) c.in_ok-made.ensures c.close.ensures.types
    (c.close.ensures.around old c.open.new.self opens inside c.in_ok-opened.ensures.declared c.in_ok-opened.ensures.retyped)
    (λ later on before within stands then_stands. c.close.ensures.closed old c.open.new.self opens inside c.in_ok-opened.ensures.declared c.in_ok-opened.ensures.retyped later on before within stands then_stands)

pub switch_part-returns-in_err-begun : goal.switch_part-returns-in_err-begun
switch_part-returns-in_err-begun t c =
    runs-out AllFit all_over (source_of c.args.typer.now) c.args.standing.now c.open.new.self _ c.from_residual.result (same-begins c.args.standing.now.known.types c.open.new.self.known.types c.open.ensures.types) c.from_residual.ensures.1

pub switch_part-typed_switch_items-requires : goal.switch_part-typed_switch_items-requires
switch_part-typed_switch_items-requires t c =
    (search (rules, arith, q.the_lemmas), subst (λ (types : Table). WithinFits types c.in_switch.result) (sym c.open.ensures.types) (switch-fits c.args.standing.now.known.types c.args.within.now c.in_switch.result c.in_switch.ensures c.requires))

pub switch_part-returns-in_err-made : goal.switch_part-returns-in_err-made
switch_part-returns-in_err-made t c =
    own-fails c.in_ok-begun.ensures.opens (λ later before stands. c.in_ok-begun.ensures.opened later before stands) (switch-inside c.args.typer.now c.args.within.now c.args.kind c.args.items.now c.in_switch.result c.in_switch.ensures c.in_err-made.ensures) c.from_residual-in_err-made.ensures.1

pub switch_part-close-requires : goal.switch_part-close-requires
switch_part-close-requires t c =
    scope-open c.args.standing.now c.open.new.self c.typed_switch_items.new.standing finite.empty c.in_ok-begun.ensures.scopes c.in_ok-begun.ensures.outside c.in_ok-made.ensures.within

pub switch_part-returns : goal.switch_part-returns
switch_part-returns t c =
    let old = c.args.standing.now in
    let opens = c.in_ok-begun.ensures.opens in
    let inside = c.in_ok-made.ensures.within in
    own-ends opens (λ later before stands. c.in_ok-begun.ensures.opened later before stands) (switch-inside c.args.typer.now c.args.within.now c.args.kind c.args.items.now c.in_switch.result c.in_switch.ensures c.in_ok-made.ensures) c.close.ensures.types
    (c.close.ensures.around old c.open.new.self opens inside c.in_ok-begun.ensures.declared c.in_ok-begun.ensures.retyped)
    (λ later on before within stands then_stands. c.close.ensures.closed old c.open.new.self opens inside c.in_ok-begun.ensures.declared c.in_ok-begun.ensures.retyped later on before within stands then_stands)

pub stmt_inside-returns-in-Block : goal.stmt_inside-returns-in-Block
stmt_inside-returns-in-Block t c =
    stmt-as c.args.typer.now c.args.within.now c.args.stmt.now
    (view-block c.args.stmt.now c.in-Block.items c.in-Block.is ∙ ap (λ items. tree.block c.args.stmt.now.span (syntax.block_items (map syntax.block_item items))) (sym c.items.ensures)) c.block.ensures

pub stmt_inside-returns-in-Expression : goal.stmt_inside-returns-in-Expression
stmt_inside-returns-in-Expression t c =
    stmt-as c.args.typer.now c.args.within.now c.args.stmt.now
    (view-expression c.args.stmt.now c.in-Expression.expr c.in-Expression.is) c.expression.ensures

pub stmt_inside-returns-in-If : goal.stmt_inside-returns-in-If
stmt_inside-returns-in-If t c =
    let setting = setting_of c.args.typer.now in
    let condition = syntax.expr c.in-If.condition in
    let other = option_map syntax.stmt c.in-If.other in
    let span = c.args.stmt.now.span in
    alike IsNumbered view_over (source_of c.args.typer.now) c.args.standing.now c.choice.new.standing _ _
    (λ later before stands lawful. ap (stmt_inside setting (within_over later c.args.within.now) before) (view-if c.args.stmt.now c.in-If.condition c.in-If.body c.in-If.other c.in-If.is)
    ∙ inside-if setting (within_over later c.args.within.now) before span condition (syntax.stmt c.in-If.body) other
    ∙ ap (λ body. choice_inside setting (within_over later c.args.within.now) before span condition (syntax.stmt body) other) (sym c.get.ensures)) c.choice.result c.choice.ensures

pub stmt_inside-returns-in-Switch : goal.stmt_inside-returns-in-Switch
stmt_inside-returns-in-Switch t c =
    stmt-as c.args.typer.now c.args.within.now c.args.stmt.now
    (view-switch c.args.stmt.now c.in-Switch.operand c.in-Switch.items c.in-Switch.is
    ∙ ap (λ items. tree.switch c.args.stmt.now.span (syntax.expr c.in-Switch.operand) (syntax.switch_items (map syntax.switch_item items))) (sym c.items-in-Switch.ensures)) c.switch.ensures

pub stmt_inside-returns-in-While : goal.stmt_inside-returns-in-While
stmt_inside-returns-in-While t c =
    stmt-as c.args.typer.now c.args.within.now c.args.stmt.now
    (view-while c.args.stmt.now c.in-While.condition c.in-While.body c.in-While.is ∙ ap (λ body. tree.while c.args.stmt.now.span (syntax.expr c.in-While.condition) (syntax.stmt body)) (sym c.get-in-While.ensures)) c.while_statement.ensures

pub stmt_inside-returns-in-Do : goal.stmt_inside-returns-in-Do
stmt_inside-returns-in-Do t c =
    stmt-as c.args.typer.now c.args.within.now c.args.stmt.now
    (view-do c.args.stmt.now c.in-Do.body c.in-Do.condition c.in-Do.is ∙ ap (λ body. tree.do_while c.args.stmt.now.span (syntax.stmt body) (syntax.expr c.in-Do.condition)) (sym c.get-in-Do.ensures)) c.do_statement.ensures

pub stmt_inside-returns-in-For : goal.stmt_inside-returns-in-For
stmt_inside-returns-in-For t c =
    stmt-as c.args.typer.now c.args.within.now c.args.stmt.now
    (view-for c.args.stmt.now c.in-For.start c.in-For.condition c.in-For.step c.in-For.body c.in-For.is
    ∙ ap (λ body. tree.for_loop c.args.stmt.now.span (syntax.start c.in-For.start) (option_map syntax.expr c.in-For.condition) (option_map syntax.expr c.in-For.step) (syntax.stmt body)) (sym c.get-in-For.ensures)) c.for_statement.ensures

pub stmt_inside-returns-in-Break : goal.stmt_inside-returns-in-Break
stmt_inside-returns-in-Break t c =
    stmt-as c.args.typer.now c.args.within.now c.args.stmt.now
    (view-break c.args.stmt.now c.in-Break.is) c.break_here.ensures

pub stmt_inside-returns-in-Continue : goal.stmt_inside-returns-in-Continue
stmt_inside-returns-in-Continue t c =
    stmt-as c.args.typer.now c.args.within.now c.args.stmt.now
    (view-continue c.args.stmt.now c.in-Continue.is) c.continue_here.ensures

pub stmt_inside-returns-in-Return : goal.stmt_inside-returns-in-Return
stmt_inside-returns-in-Return t c =
    stmt-as c.args.typer.now c.args.within.now c.args.stmt.now
    (view-return c.args.stmt.now c.in-Return.expr c.in-Return.is) c.return_here.ensures

pub block-returns-in_err-trees : goal.block-returns-in_err-trees
block-returns-in_err-trees t c =
    only-fails (block-call c.args.typer.now c.args.within.now c.args.span c.args.items.now) c.in_err-trees.ensures c.from_residual.ensures.1

pub block-returns : goal.block-returns
block-returns t c =
    let w = c.args.within.now in
    let types = c.typed_items_in.new.standing.known.types in
    let trees = c.in_ok-trees.trees in
    let fits = within-later c.args.standing.now.known.types types w c.requires c.in_ok-trees.ensures.shapes in
    only-made (block-call c.args.typer.now c.args.within.now c.args.span c.args.items.now) c.in_ok-trees.ensures
    (λ later on. c.block.ensures.view (record { shapes = later; structs = [] }) ∙ statement-is (setting_of c.args.typer.now) types w later c.args.span label.block (trees_over later trees) fits on)
    (one-fits types w fits c.block.result (all_pass (map (are_known (length types.shapes)) trees)) (c.block.ensures.known (length types.shapes)) (trees-known types trees c.in_ok-trees.ensures.numbered))

pub choice-returns-in_err-value : goal.choice-returns-in_err-value
choice-returns-in_err-value t c =
    one-fails (choice-calls c.args.typer.now c.args.within.now c.args.span c.args.condition.now c.args.body.now c.args.other.now) c.in_err-value.ensures c.from_residual.ensures.1

pub choice-part-requires : goal.choice-part-requires
choice-part-requires t c =
    (search (rules, arith, q.the_lemmas), within-later c.args.standing.now.known.types c.condition_here.new.standing.known.types c.args.within.now c.requires c.in_ok-value.ensures.shapes)

pub choice-returns-in_err-first : goal.choice-returns-in_err-first
choice-returns-in_err-first t c =
    two-fails (choice-calls c.args.typer.now c.args.within.now c.args.span c.args.condition.now c.args.body.now c.args.other.now) c.in_ok-value.ensures c.in_err-first.ensures c.from_residual-in_err-first.ensures.1

pub choice-other_part-requires : goal.choice-other_part-requires
choice-other_part-requires t c =
    let one = c.condition_here.new.standing.known.types in
    (search (rules, arith, q.the_lemmas), within-later one c.part.new.standing.known.types c.args.within.now (within-later c.args.standing.now.known.types one c.args.within.now c.requires c.in_ok-value.ensures.shapes) c.in_ok-first.ensures.shapes)

pub choice-returns-in_err-second : goal.choice-returns-in_err-second
choice-returns-in_err-second t c =
    three-fails (choice-calls c.args.typer.now c.args.within.now c.args.span c.args.condition.now c.args.body.now c.args.other.now) c.in_ok-value.ensures c.in_ok-first.ensures c.in_err-second.ensures c.from_residual-in_err-second.ensures.1

pub choice-returns-in_err-made : goal.choice-returns-in_err-made
choice-returns-in_err-made t c =
    all-dry (choice-calls c.args.typer.now c.args.within.now c.args.span c.args.condition.now c.args.body.now c.args.other.now) c.in_ok-value.ensures c.in_ok-first.ensures c.in_ok-second.ensures c.from_residual-in_err-made.ensures.1

pub choice-returns : goal.choice-returns
choice-returns t c =
    let w = c.args.within.now in
    let one = c.condition_here.new.standing.known.types in
    let two = c.part.new.standing.known.types in
    let types = c.other_part.new.standing.known.types in
    let value = c.in_ok-value.value in
    let first = c.in_ok-first.first in
    let second = c.in_ok-second.second in
    let more = begins-on one.shapes two.shapes types.shapes c.in_ok-first.ensures.shapes c.in_ok-second.ensures.shapes in
    let fits = within-later one types w (within-later c.args.standing.now.known.types one w c.requires c.in_ok-value.ensures.shapes) more in
    all-made (choice-calls c.args.typer.now c.args.within.now c.args.span c.args.condition.now c.args.body.now c.args.other.now) c.in_ok-value.ensures c.in_ok-first.ensures c.in_ok-second.ensures
    (λ later on. c.in_ok-made.ensures.view (record { shapes = later; structs = [] })
    ∙ statement-is (setting_of c.args.typer.now) types w later c.args.span label.if_statement (view_over later value ∷ view_over later first ∷ optional_over later second) fits on)
    (three-fit types w fits c.in_ok-made.made (are_known (length types.shapes) value) (are_known (length types.shapes) first) (passes_if_there (option_map (are_known (length types.shapes)) second)) (c.in_ok-made.ensures.known (length types.shapes))
    (known-later one.shapes types.shapes value more c.in_ok-value.ensures.numbered) (known-later two.shapes types.shapes first c.in_ok-second.ensures.shapes c.in_ok-first.ensures.numbered)
    (optional-passes types second c.in_ok-second.ensures.numbered))

pub other_part-returns-in-None : goal.other_part-returns-in-None
other_part-returns-in-None t c =
    let w = c.args.within.now in
    done OptionalFits optional_over (source_of c.args.typer.now) c.args.standing.now c.args.standing.now _ None
    (starts c.args.standing.now _ (λ (later : List Shape) (behind : Standing). goes_on behind []) (λ later before stands lawful. ap (λ one. other_part (setting_of c.args.typer.now) (within_over later w) before (option_map syntax.stmt one)) c.in-None.is)) tt

pub other_part-returns-in_err-made-in-Some : goal.other_part-returns-in_err-made-in-Some
other_part-returns-in_err-made-in-Some t c =
    only-fails (other-call c.args.typer.now c.args.within.now c.args.other.now c.get.result.now c.in-Some.is c.get.ensures) c.in_err-made-in-Some.ensures c.from_residual.ensures.1

pub other_part-returns-in_ok-made-in-Some : goal.other_part-returns-in_ok-made-in-Some
other_part-returns-in_ok-made-in-Some t c =
    only-made (other-call c.args.typer.now c.args.within.now c.args.other.now c.get.result.now c.in-Some.is c.get.ensures) c.in_ok-made-in-Some.ensures (λ later on. refl) c.in_ok-made-in-Some.ensures.numbered

pub switch-returns-in_err-subject : goal.switch-returns-in_err-subject
switch-returns-in_err-subject t c =
    first-fails (switch-calls c.args.typer.now c.args.within.now c.args.span c.args.operand.now c.args.items.now) c.in_err-subject.ensures c.from_residual.ensures.1

pub switch-switch_part-requires : goal.switch-switch_part-requires
switch-switch_part-requires t c =
    (search (rules, arith, q.the_lemmas), within-later c.args.standing.now.known.types c.subject_here.new.standing.known.types c.args.within.now c.requires c.in_ok-subject.ensures.shapes)

pub switch-returns-in_err-all : goal.switch-returns-in_err-all
switch-returns-in_err-all t c =
    next-fails (switch-calls c.args.typer.now c.args.within.now c.args.span c.args.operand.now c.args.items.now) c.in_ok-subject.ensures c.in_err-all.ensures c.from_residual-in_err-all.ensures.1

pub switch-returns-in_err-made : goal.switch-returns-in_err-made
switch-returns-in_err-made t c =
    both-dry (switch-calls c.args.typer.now c.args.within.now c.args.span c.args.operand.now c.args.items.now) c.in_ok-subject.ensures c.in_ok-all.ensures c.from_residual-in_err-made.ensures.1

pub switch-returns : goal.switch-returns
switch-returns t c =
    let setting = setting_of c.args.typer.now in
    let w = c.args.within.now in
    let one = c.subject_here.new.standing.known.types in
    let types = c.switch_part.new.standing.known.types in
    let tree_of = c.in_ok-subject.subject.tree in
    let fits = within-later one types w (within-later c.args.standing.now.known.types one w c.requires c.in_ok-subject.ensures.shapes) c.in_ok-all.ensures.shapes in
    both-made (switch-calls c.args.typer.now c.args.within.now c.args.span c.args.operand.now c.args.items.now) c.in_ok-subject.ensures c.in_ok-all.ensures
    (λ later on. c.in_ok-made.ensures.view (record { shapes = later; structs = [] }) ∙ statement-is setting types w later c.args.span label.switch (view_over later tree_of ∷ trees_over later c.trees_of.result) fits on
    ∙ ap (λ trees. statement setting c.args.span label.switch (view_over later tree_of ∷ trees_over later trees)) c.trees_of.ensures)
    (two-fit types w fits c.in_ok-made.made (are_known (length types.shapes) tree_of) (all_pass (map (are_known (length types.shapes)) c.trees_of.result)) (c.in_ok-made.ensures.known (length types.shapes))
    (known-later one.shapes types.shapes tree_of c.in_ok-all.ensures.shapes c.in_ok-subject.ensures.numbered)
    (trees-known types c.trees_of.result (subst (AreNumbered types) (sym c.trees_of.ensures) c.in_ok-all.ensures.numbered)))

pub while_statement-returns-in_err-value : goal.while_statement-returns-in_err-value
while_statement-returns-in_err-value t c =
    first-fails (while-calls c.args.typer.now c.args.within.now _ refl c.args.span c.args.condition.now c.args.body.now) c.in_err-value.ensures c.from_residual.ensures.1

pub while_statement-part-requires : goal.while_statement-part-requires
while_statement-part-requires t c =
    let one = c.condition_here.new.standing.known.types in
    (search (rules, arith, q.the_lemmas), loop-fits one c.args.within.now c.in_loop.result c.in_loop.ensures (within-later c.args.standing.now.known.types one c.args.within.now c.requires c.in_ok-value.ensures.shapes))

pub while_statement-returns-in_err-body : goal.while_statement-returns-in_err-body
while_statement-returns-in_err-body t c =
    next-fails (while-calls c.args.typer.now c.args.within.now c.in_loop.result c.in_loop.ensures c.args.span c.args.condition.now c.args.body.now) c.in_ok-value.ensures c.in_err-body.ensures c.from_residual-in_err-body.ensures.1

pub while_statement-returns-in_err-made : goal.while_statement-returns-in_err-made
while_statement-returns-in_err-made t c =
    both-dry (while-calls c.args.typer.now c.args.within.now c.in_loop.result c.in_loop.ensures c.args.span c.args.condition.now c.args.body.now) c.in_ok-value.ensures c.in_ok-body.ensures c.from_residual-in_err-made.ensures.1

pub while_statement-returns : goal.while_statement-returns
while_statement-returns t c =
    let w = c.args.within.now in
    let one = c.condition_here.new.standing.known.types in
    let types = c.part.new.standing.known.types in
    let first = c.in_ok-value.value in
    let second = c.in_ok-body.body in
    let fits = within-later one types w (within-later c.args.standing.now.known.types one w c.requires c.in_ok-value.ensures.shapes) c.in_ok-body.ensures.shapes in
    both-made (while-calls c.args.typer.now c.args.within.now c.in_loop.result c.in_loop.ensures c.args.span c.args.condition.now c.args.body.now) c.in_ok-value.ensures c.in_ok-body.ensures
    (λ later on. c.in_ok-made.ensures.view (record { shapes = later; structs = [] }) ∙ statement-is (setting_of c.args.typer.now) types w later c.args.span label.while_loop (view_over later first ∷ view_over later second ∷ []) fits on)
    (two-fit types w fits c.in_ok-made.made (are_known (length types.shapes) first) (are_known (length types.shapes) second) (c.in_ok-made.ensures.known (length types.shapes))
    (known-later one.shapes types.shapes first c.in_ok-body.ensures.shapes c.in_ok-value.ensures.numbered) c.in_ok-body.ensures.numbered)

pub do_statement-part-requires : goal.do_statement-part-requires
do_statement-part-requires t c =
    (search (rules, arith, q.the_lemmas), loop-fits c.args.standing.now.known.types c.args.within.now c.in_loop.result c.in_loop.ensures c.requires)

pub do_statement-returns-in_err-body : goal.do_statement-returns-in_err-body
do_statement-returns-in_err-body t c =
    first-fails (do-calls c.args.typer.now c.args.within.now c.in_loop.result c.in_loop.ensures c.args.span c.args.body.now c.args.condition.now) c.in_err-body.ensures c.from_residual.ensures.1

pub do_statement-returns-in_err-value : goal.do_statement-returns-in_err-value
do_statement-returns-in_err-value t c =
    next-fails (do-calls c.args.typer.now c.args.within.now c.in_loop.result c.in_loop.ensures c.args.span c.args.body.now c.args.condition.now) c.in_ok-body.ensures c.in_err-value.ensures c.from_residual-in_err-value.ensures.1

pub do_statement-returns-in_err-made : goal.do_statement-returns-in_err-made
do_statement-returns-in_err-made t c =
    both-dry (do-calls c.args.typer.now c.args.within.now c.in_loop.result c.in_loop.ensures c.args.span c.args.body.now c.args.condition.now) c.in_ok-body.ensures c.in_ok-value.ensures c.from_residual-in_err-made.ensures.1

pub do_statement-returns : goal.do_statement-returns
do_statement-returns t c =
    let w = c.args.within.now in
    let one = c.part.new.standing.known.types in
    let types = c.condition_here.new.standing.known.types in
    let first = c.in_ok-body.body in
    let second = c.in_ok-value.value in
    let fits = within-later one types w (within-later c.args.standing.now.known.types one w c.requires c.in_ok-body.ensures.shapes) c.in_ok-value.ensures.shapes in
    both-made (do-calls c.args.typer.now c.args.within.now c.in_loop.result c.in_loop.ensures c.args.span c.args.body.now c.args.condition.now) c.in_ok-body.ensures c.in_ok-value.ensures
    (λ later on. c.in_ok-made.ensures.view (record { shapes = later; structs = [] }) ∙ statement-is (setting_of c.args.typer.now) types w later c.args.span label.do_loop (view_over later first ∷ view_over later second ∷ []) fits on)
    (two-fit types w fits c.in_ok-made.made (are_known (length types.shapes) first) (are_known (length types.shapes) second) (c.in_ok-made.ensures.known (length types.shapes))
    (known-later one.shapes types.shapes first c.in_ok-value.ensures.shapes c.in_ok-body.ensures.numbered) c.in_ok-value.ensures.numbered)

pub for_statement-returns-in_err-clauses : goal.for_statement-returns-in_err-clauses
for_statement-returns-in_err-clauses t c =
    first-fails (for-calls c.args.typer.now c.args.within.now _ refl c.args.span c.args.start.now c.args.condition.now c.args.step.now c.args.body.now) c.in_err-clauses.ensures c.from_residual.ensures.1

pub for_statement-part-requires : goal.for_statement-part-requires
for_statement-part-requires t c =
    let one = c.clauses_here.new.standing.known.types in
    (search (rules, arith, q.the_lemmas), loop-fits one c.args.within.now c.in_loop.result c.in_loop.ensures (within-later c.args.standing.now.known.types one c.args.within.now c.requires c.in_ok-clauses.ensures.shapes))

pub for_statement-returns-in_err-body : goal.for_statement-returns-in_err-body
for_statement-returns-in_err-body t c =
    next-fails (for-calls c.args.typer.now c.args.within.now c.in_loop.result c.in_loop.ensures c.args.span c.args.start.now c.args.condition.now c.args.step.now c.args.body.now) c.in_ok-clauses.ensures c.in_err-body.ensures c.from_residual-in_err-body.ensures.1

pub for_statement-returns-in_err-made : goal.for_statement-returns-in_err-made
for_statement-returns-in_err-made t c =
    both-dry (for-calls c.args.typer.now c.args.within.now c.in_loop.result c.in_loop.ensures c.args.span c.args.start.now c.args.condition.now c.args.step.now c.args.body.now) c.in_ok-clauses.ensures c.in_ok-body.ensures c.from_residual-in_err-made.ensures.1

pub for_statement-returns : goal.for_statement-returns
for_statement-returns t c =
    let setting = setting_of c.args.typer.now in
    let w = c.args.within.now in
    let one = c.clauses_here.new.standing.known.types in
    let types = c.part.new.standing.known.types in
    let all = c.in_ok-clauses.clauses in
    let made = c.in_ok-body.body in
    let more = c.in_ok-body.ensures.shapes in
    let fits = within-later one types w (within-later c.args.standing.now.known.types one w c.requires c.in_ok-clauses.ensures.shapes) more in
    both-made (for-calls c.args.typer.now c.args.within.now c.in_loop.result c.in_loop.ensures c.args.span c.args.start.now c.args.condition.now c.args.step.now c.args.body.now) c.in_ok-clauses.ensures c.in_ok-body.ensures
    (λ later on. c.in_ok-made.ensures.view (record { shapes = later; structs = [] })
    ∙ statement-is setting types w later c.args.span (label.for_loop (is_some all.first) (is_some all.condition) (is_some all.step))
    (optional_over later all.first ++ (optional_over later all.condition ++ (optional_over later all.step ++ view_over later made ∷ []))) fits on
    ∙ for-is-there (record { shapes = later; structs = [] }) setting c.args.span all.first all.condition all.step (view_over later made))
    (four-fit types w fits c.in_ok-made.made (passes_if_there (option_map (are_known (length types.shapes)) all.first)) (passes_if_there (option_map (are_known (length types.shapes)) all.condition)) (passes_if_there (option_map (are_known (length types.shapes)) all.step))
    (are_known (length types.shapes) made) (c.in_ok-made.ensures.known (length types.shapes))
    (optional-passes types all.first (optional-later one types all.first c.in_ok-clauses.ensures.numbered.first more)) (optional-passes types all.condition (optional-later one types all.condition c.in_ok-clauses.ensures.numbered.condition more))
    (optional-passes types all.step (optional-later one types all.step c.in_ok-clauses.ensures.numbered.step more)) c.in_ok-body.ensures.numbered)

pub typed_items_in-typed_item_in-requires : goal.typed_items_in-typed_item_in-requires
typed_items_in-typed_item_in-requires t c =
    (search (rules, arith, q.the_lemmas), within-later c.args.standing.now.known.types c.loop-item.standing.known.types c.args.within.now c.requires c.loop-item.invariant.0.shapes)

pub typed_items_in-returns-in_err-made : goal.typed_items_in-returns-in_err-made
typed_items_in-returns-in_err-made t c =
    call-fails (item-call c.args.typer.now c.args.within.now c.args.items.now c.loop-item.item-index c.loop-item.trees c.loop-item.invariant.0 c.item-item.result c.loop-item-test.true c.item-item.is) c.in_err-made.ensures c.from_residual.ensures.1

pub typed_items_in-returns-in_err-push : goal.typed_items_in-returns-in_err-push
typed_items_in-returns-in_err-push t c =
    call-starves (item-call c.args.typer.now c.args.within.now c.args.items.now c.loop-item.item-index c.loop-item.trees c.loop-item.invariant.0 c.item-item.result c.loop-item-test.true c.item-item.is) c.in_ok-made.ensures c.from_residual-in_err-push.ensures.1

pub typed_items_in-loop-item-preserved : goal.typed_items_in-loop-item-preserved
typed_items_in-loop-item-preserved t c =
    let types = c.typed_item_in.new.standing.known.types in
    let trees = c.loop-item.trees in
    let rest = syntax.block_items (map syntax.block_item (drop (c.loop-item.item-index + 1) c.args.items.now)) in (
      restated c.args.standing.now c.typed_item_in.new.standing _ _ _ (call-passes (item-call c.args.typer.now c.args.within.now c.args.items.now c.loop-item.item-index c.loop-item.trees c.loop-item.invariant.0 c.item-item.result c.loop-item-test.true c.item-item.is) c.in_ok-made.ensures)
          (λ later on behind stands lawful. ap (λ before. behind_these before (typed_items_in (setting_of c.args.typer.now) (within_over later c.args.within.now) behind rest))
          (sym (ap (trees_over later) c.in_ok-push.ensures.ok ∙ map-append (view_over later) trees (c.in_ok-made.made ∷ [])))),
      subst (AreNumbered types) (sym c.in_ok-push.ensures.ok)
          (All-push (IsNumbered types) trees c.in_ok-made.made (trees-later c.loop-item.standing.known.types types trees c.in_ok-made.ensures.shapes c.loop-item.invariant.1) c.in_ok-made.ensures.numbered),
    )

pub typed_items_in-returns : goal.typed_items_in-returns
typed_items_in-returns t c =
    items-done c.args.typer.now c.args.within.now c.args.items.now c.loop-item.item-index c.loop-item.trees c.loop-item.invariant.0 c.loop-item-test.false c.loop-item.invariant.1

pub typed_items_in-loop-item-init : goal.typed_items_in-loop-item-init
typed_items_in-loop-item-init t c =
    let old = c.args.standing.now in
    let items = syntax.block_items (map syntax.block_item c.args.items.now) in (
      starts old _ _
          (λ later before stands lawful. behind-none (typed_items_in (setting_of c.args.typer.now) (within_over later c.args.within.now) before items)
          ∙ ap (λ trees. behind_these (trees_over later trees) (typed_items_in (setting_of c.args.typer.now) (within_over later c.args.within.now) before items)) (sym c.new-trees.ensures)),
      subst (AreNumbered old.known.types) (sym c.new-trees.ensures) (All-nil (IsNumbered old.known.types)),
    )

pub typed_item_in-returns-in-Declaration : goal.typed_item_in-returns-in-Declaration
typed_item_in-returns-in-Declaration t c =
    let setting = setting_of c.args.typer.now in
    let w = c.args.within.now in
    alike IsNumbered view_over (source_of c.args.typer.now) c.args.standing.now c.declared_in.new.standing _ _
    (λ later before stands lawful. ap (λ item. typed_item_in setting (within_over later w) before (syntax.block_item item)) c.in-Declaration.is ∙ ap (typed_item_in setting (within_over later w) before) (view-declared c.in-Declaration.declaration)
    ∙ declared-item setting (within_over later w) before (syntax.declaration c.in-Declaration.declaration)) c.declared_in.result c.declared_in.ensures

pub typed_item_in-returns-in-Statement : goal.typed_item_in-returns-in-Statement
typed_item_in-returns-in-Statement t c =
    let setting = setting_of c.args.typer.now in
    let w = c.args.within.now in
    alike IsNumbered view_over (source_of c.args.typer.now) c.args.standing.now c.typed_stmt.new.standing _ _
    (λ later before stands lawful. ap (λ item. typed_item_in setting (within_over later w) before (syntax.block_item item)) c.in-Statement.is ∙ ap (typed_item_in setting (within_over later w) before) (view-stated c.in-Statement.stmt)
    ∙ stated-item setting (within_over later w) before (syntax.stmt c.in-Statement.stmt)) c.typed_stmt.result c.typed_stmt.ensures

pub typed_switch_items-item_behind-requires : goal.typed_switch_items-item_behind-requires
typed_switch_items-item_behind-requires t c =
    (search (rules, arith, q.the_lemmas), (within-later c.args.standing.now.known.types c.loop-item.standing.known.types c.args.within.now c.requires c.loop-item.invariant.0.shapes, c.loop-item.invariant.1))

pub typed_switch_items-returns-in_err-made : goal.typed_switch_items-returns-in_err-made
typed_switch_items-returns-in_err-made t c =
    call-fails (switch-item-call c.args.typer.now c.args.within.now c.args.kind c.args.items.now c.loop-item.item-index c.loop-item.all c.loop-item.invariant.0 c.item-item.result c.loop-item-test.true c.item-item.is) c.in_err-made.ensures c.from_residual.ensures.1

pub typed_switch_items-loop-item-preserved : goal.typed_switch_items-loop-item-preserved
typed_switch_items-loop-item-preserved t c =
    (call-passes (switch-item-call c.args.typer.now c.args.within.now c.args.kind c.args.items.now c.loop-item.item-index c.loop-item.all c.loop-item.invariant.0 c.item-item.result c.loop-item-test.true c.item-item.is) c.in_ok-made.ensures, c.in_ok-made.ensures.numbered)

pub typed_switch_items-returns : goal.typed_switch_items-returns
typed_switch_items-returns t c =
    switch-items-done c.args.typer.now c.args.within.now c.args.kind c.args.items.now c.loop-item.item-index c.loop-item.all c.loop-item.invariant.0 c.loop-item-test.false c.loop-item.invariant.1

pub typed_switch_items-loop-item-init : goal.typed_switch_items-loop-item-init
typed_switch_items-loop-item-init t c =
    let setting = setting_of c.args.typer.now in
    let w = c.args.within.now in
    let old = c.args.standing.now in
    let items = syntax.switch_items (map syntax.switch_item c.args.items.now) in (
      starts old _ _
          (λ later before stands lawful. all-none [] (typed_switch_items setting (within_over later w) c.args.kind before [] items)
          ∙ ap₂ (λ (trees : List Core) labels. behind_all (record { trees = trees_over later trees; labels = labels }) (typed_switch_items setting (within_over later w) c.args.kind before labels items))
          (sym c.none_labelled-all.ensures.trees) (sym c.none_labelled-all.ensures.labels)),
      subst (AreNumbered old.known.types) (sym c.none_labelled-all.ensures.trees) (All-nil (IsNumbered old.known.types)),
    )

pub item_behind-returns-in_err-made : goal.item_behind-returns-in_err-made
item_behind-returns-in_err-made t c =
    only-fails (item-behind-call c.args.typer.now c.args.within.now c.args.kind c.args.all c.args.item.now) c.in_err-made.ensures c.from_residual.ensures.1

pub item_behind-returns-in_err-joined : goal.item_behind-returns-in_err-joined
item_behind-returns-in_err-joined t c =
    only-dry (item-behind-call c.args.typer.now c.args.within.now c.args.kind c.args.all c.args.item.now) c.in_ok-made.ensures c.from_residual-in_err-joined.ensures.1

pub item_behind-returns : goal.item_behind-returns
item_behind-returns t c =
    let types = c.typed_switch_item.new.standing.known.types in
    let all = c.args.all in
    let one = c.in_ok-made.made in
    only-made (item-behind-call c.args.typer.now c.args.within.now c.args.kind c.args.all c.args.item.now) c.in_ok-made.ensures
    (λ later on. ap₂ (λ (trees : List Core) (labels : Labels). record { trees = trees_over later trees; labels = labels_of labels }) c.in_ok-joined.ensures.trees c.in_ok-joined.ensures.labels
    ∙ ap (λ trees. record { trees = trees; labels = labels_of one.labels }) (map-append (view_over later) all.trees (one.tree ∷ [])))
    (subst (AreNumbered types) (sym c.in_ok-joined.ensures.trees)
    (All-push (IsNumbered types) all.trees one.tree (trees-later c.args.standing.now.known.types types all.trees c.in_ok-made.ensures.shapes c.requires.all) c.in_ok-made.ensures.numbered))

pub typed_switch_item-returns-in-Case : goal.typed_switch_item-returns-in-Case
typed_switch_item-returns-in-Case t c =
    labelled-as c.args.typer.now c.args.within.now c.args.kind c.args.labels c.args.item.now
    (view-case c.args.item.now c.in-Case.expr c.in-Case.inner c.in-Case.is ∙ ap (λ inner. tree.case c.args.item.now.span (syntax.expr c.in-Case.expr) (syntax.switch_item inner)) (sym c.get.ensures)) c.case_item.ensures

pub typed_switch_item-returns-in-Default : goal.typed_switch_item-returns-in-Default
typed_switch_item-returns-in-Default t c =
    labelled-as c.args.typer.now c.args.within.now c.args.kind c.args.labels c.args.item.now
    (view-default c.args.item.now c.in-Default.inner c.in-Default.is ∙ ap (λ inner. tree.default c.args.item.now.span (syntax.switch_item inner)) (sym c.get-in-Default.ensures)) c.default_item.ensures

pub typed_switch_item-returns-in_err-tree-in-Statement : goal.typed_switch_item-returns-in_err-tree-in-Statement
typed_switch_item-returns-in_err-tree-in-Statement t c =
    only-fails (unlabelled-call c.args.typer.now c.args.within.now c.args.kind c.args.labels c.args.item.now c.in-Statement.stmt c.in-Statement.is) c.in_err-tree-in-Statement.ensures c.from_residual.ensures.1

pub typed_switch_item-returns-in_ok-tree-in-Statement : goal.typed_switch_item-returns-in_ok-tree-in-Statement
typed_switch_item-returns-in_ok-tree-in-Statement t c =
    only-made (unlabelled-call c.args.typer.now c.args.within.now c.args.kind c.args.labels c.args.item.now c.in-Statement.stmt c.in-Statement.is) c.in_ok-tree-in-Statement.ensures (λ later on. refl) c.in_ok-tree-in-Statement.ensures.numbered

pub case_item-returns-in_err-one : goal.case_item-returns-in_err-one
case_item-returns-in_err-one t c =
    first-fails (case-calls c.args.typer.now c.args.within.now c.args.kind c.args.labels c.args.span c.args.expr.now c.args.inner.now) c.in_err-one.ensures c.from_residual.ensures.1

pub case_item-typed_switch_item-requires : goal.case_item-typed_switch_item-requires
case_item-typed_switch_item-requires t c =
    (search (rules, arith, q.the_lemmas), within-later c.args.standing.now.known.types c.label_here.new.standing.known.types c.args.within.now c.requires c.in_ok-one.ensures.shapes)

pub case_item-returns-in_err-made : goal.case_item-returns-in_err-made
case_item-returns-in_err-made t c =
    next-fails (case-calls c.args.typer.now c.args.within.now c.args.kind c.args.labels c.args.span c.args.expr.now c.args.inner.now) c.in_ok-one.ensures c.in_err-made.ensures c.from_residual-in_err-made.ensures.1

pub case_item-returns-in_err-tree : goal.case_item-returns-in_err-tree
case_item-returns-in_err-tree t c =
    both-dry (case-calls c.args.typer.now c.args.within.now c.args.kind c.args.labels c.args.span c.args.expr.now c.args.inner.now) c.in_ok-one.ensures c.in_ok-made.ensures c.from_residual-in_err-tree.ensures.1

pub case_item-returns : goal.case_item-returns
case_item-returns t c =
    let w = c.args.within.now in
    let before = c.label_here.new.standing.known.types in
    let types = c.typed_switch_item.new.standing.known.types in
    let one = c.in_ok-one.one in
    let made = c.in_ok-made.made in
    let fits = within-later before types w (within-later c.args.standing.now.known.types before w c.requires c.in_ok-one.ensures.shapes) c.in_ok-made.ensures.shapes in
    both-made (case-calls c.args.typer.now c.args.within.now c.args.kind c.args.labels c.args.span c.args.expr.now c.args.inner.now) c.in_ok-one.ensures c.in_ok-made.ensures
    (λ later on. ap (λ tree. unlabelled tree (labels_of made.labels)) (c.in_ok-tree.ensures.view (record { shapes = later; structs = [] })
    ∙ statement-is (setting_of c.args.typer.now) types w later c.args.span label.case (view_over later one.tree ∷ view_over later made.tree ∷ []) fits on))
    (two-fit types w fits c.in_ok-tree.tree (are_known (length types.shapes) one.tree) (are_known (length types.shapes) made.tree) (c.in_ok-tree.ensures.known (length types.shapes))
    (known-later before.shapes types.shapes one.tree c.in_ok-made.ensures.shapes c.in_ok-one.ensures.numbered) c.in_ok-made.ensures.numbered)

pub default_item-returns-in_err-labels : goal.default_item-returns-in_err-labels
default_item-returns-in_err-labels t c =
    let w = c.args.within.now in
    relays LabelledFits labelled_over (source_of c.args.typer.now) c.args.standing.now c.args.standing.now _ c.from_residual.result c.in_err-labels.field-0.0 c.from_residual.ensures.1
    (default-fails LabelledFits labelled_over (source_of c.args.typer.now) c.args.standing.now _ (labels_of c.args.labels) c.args.span.first
    (λ later before. default-again (setting_of c.args.typer.now) (within_over later w) c.args.kind before (labels_of c.args.labels) c.args.span (syntax.switch_item c.args.inner.now)) c.in_err-labels.field-0.0 c.in_err-labels.ensures)

pub default_item-returns-in_err-made : goal.default_item-returns-in_err-made
default_item-returns-in_err-made t c =
    only-fails (default-call c.args.typer.now c.args.within.now c.args.kind c.args.labels c.in_ok-labels.labels c.args.span c.args.inner.now c.in_ok-labels.ensures.0 c.in_ok-labels.ensures.1) c.in_err-made.ensures c.from_residual-in_err-made.ensures.1

pub default_item-returns-in_err-tree : goal.default_item-returns-in_err-tree
default_item-returns-in_err-tree t c =
    only-dry (default-call c.args.typer.now c.args.within.now c.args.kind c.args.labels c.in_ok-labels.labels c.args.span c.args.inner.now c.in_ok-labels.ensures.0 c.in_ok-labels.ensures.1) c.in_ok-made.ensures c.from_residual-in_err-tree.ensures.1

pub default_item-returns : goal.default_item-returns
default_item-returns t c =
    let w = c.args.within.now in
    let types = c.typed_switch_item.new.standing.known.types in
    let made = c.in_ok-made.made in
    let fits = within-later c.args.standing.now.known.types types w c.requires c.in_ok-made.ensures.shapes in
    only-made (default-call c.args.typer.now c.args.within.now c.args.kind c.args.labels c.in_ok-labels.labels c.args.span c.args.inner.now c.in_ok-labels.ensures.0 c.in_ok-labels.ensures.1) c.in_ok-made.ensures
    (λ later on. ap (λ tree. unlabelled tree (labels_of made.labels)) (c.in_ok-tree.ensures.view (record { shapes = later; structs = [] })
    ∙ statement-is (setting_of c.args.typer.now) types w later c.args.span label.default (view_over later made.tree ∷ []) fits on))
    (one-fits types w fits c.in_ok-tree.tree (are_known (length types.shapes) made.tree) (c.in_ok-tree.ensures.known (length types.shapes)) c.in_ok-made.ensures.numbered)
