use Rattle.std.proofs.Common.{true, false, ◌≡◌, ◌+◌, ◌-◌, ◌<◌, length, map, refl, sym, ap, ◌∙◌, arith, subst}
use Rattle.dm_syn.specs.declared.symbol.Symbol.TheVariants as symbol
use Rattle.dm_syn.specs.Symbols.{is}
use Rattle.dm_syn.specs.Trees as tree
use Rattle.dm_syn.specs.Views as view
use Rattle.dm_pexpr.specs.Parsing.{lower, all_turns}
use Rattle.dm_pexpr.specs.Parts.{source_of, IsPart, an_expr}
use Rattle.dm_pexpr.proofs.PartLemmas.{part-of}
use Rattle.dm_pexpr.proofs.ReadExprs.{ok-same, seen-is, seen-begins, not-end, nothing-of, none-left}
use Rattle.dm_pstmt.specs.Kinds.{a_stmt, a_labelled, a_block_item, block_items_from, switch_items_from, clauses_from}
use Rattle.dm_pstmt.specs.Parsing.{within, stands, stmt_by, block_items, switch_items, enclosed_of}
use Rattle.dm_pstmt.specs.Steps.{with_row, clauses_of}
use Rattle.dm_pstmt.proofs.ForSteps.{no-clauses-begin, no-clauses, for-read}
use Rattle.dm_pstmt.proofs.LoopSteps.{one-less, turns-left, block-further, switch-further}
use Rattle.dm_pstmt.proofs.Rows.{none-part, with-none, with-empty, as-read}
use Rattle.dm_pstmt.proofs.RowKinds.{block_row, switch_row}
use Rattle.dm_pstmt.proofs.StatementSteps.{no-stmt, no-labelled, enclosed-here, ended, lead-is, lead-other, no-block, block-read, declared-item-wanted, stated-item-wanted, no-condition, no-branch, choice-read, else-read, no-else-read, no-subject, no-brace, switch-wanted, switch-read, case-wanted, default-wanted, unlabelled-wanted, is-not, no-label, no-colon, labelled-behind, no-default-colon, default-behind, no-loop-test, while-read, no-body, do-read}
use Rattle.dm_pstmt.proofs.Turns.{no-block-left, block-end, block-none, no-switch-left, switch-end, switch-none}
use Rattle.dm_pstmt.proofs.Wholes.{then-none, gives-along, ok-along, some-holds}
use Rattle.dm_pstmt.proofs.statement.+statements.Goals as goal

pub statement-returns-then-depth-eq0 : goal.statement-returns-then-depth-eq0
statement-returns-then-depth-eq0 t c = no-stmt (source_of c.args.reader.now) c.args.depth c.args.scope.now c.args.at c.if-depth-eq0.true

pub statement-returns-in-LeftBrace : goal.statement-returns-in-LeftBrace
statement-returns-in-LeftBrace t c =
    let s = source_of c.args.reader.now in
    let names = c.args.scope.now in
    ok-same (a_stmt s) s names c.block.new.scope c.block.result _ _ (sym (lead-is s c.args.depth (c.args.depth - 1) names c.args.at symbol.LeftBrace (one-less c.args.depth c.if-depth-eq0.false) (sym c.in-LeftBrace.ensures.value))) c.block.ensures

pub statement-returns-in-If : goal.statement-returns-in-If
statement-returns-in-If t c =
    let s = source_of c.args.reader.now in
    let names = c.args.scope.now in
    ok-same (a_stmt s) s names c.choice.new.scope c.choice.result _ _ (sym (lead-is s c.args.depth (c.args.depth - 1) names c.args.at symbol.If (one-less c.args.depth c.if-depth-eq0.false) (sym c.in-If.ensures.value))) c.choice.ensures

pub statement-returns-in-Switch : goal.statement-returns-in-Switch
statement-returns-in-Switch t c =
    let s = source_of c.args.reader.now in
    let names = c.args.scope.now in
    ok-same (a_stmt s) s names c.switch.new.scope c.switch.result _ _ (sym (lead-is s c.args.depth (c.args.depth - 1) names c.args.at symbol.Switch (one-less c.args.depth c.if-depth-eq0.false) (sym c.in-Switch.ensures.value))) c.switch.ensures

pub statement-returns-in-While : goal.statement-returns-in-While
statement-returns-in-While t c =
    let s = source_of c.args.reader.now in
    let names = c.args.scope.now in
    ok-same (a_stmt s) s names c.while_statement.new.scope c.while_statement.result _ _ (sym (lead-is s c.args.depth (c.args.depth - 1) names c.args.at symbol.While (one-less c.args.depth c.if-depth-eq0.false) (sym c.in-While.ensures.value))) c.while_statement.ensures

pub statement-returns-in-Do : goal.statement-returns-in-Do
statement-returns-in-Do t c =
    let s = source_of c.args.reader.now in
    let names = c.args.scope.now in
    ok-same (a_stmt s) s names c.do_statement.new.scope c.do_statement.result _ _ (sym (lead-is s c.args.depth (c.args.depth - 1) names c.args.at symbol.Do (one-less c.args.depth c.if-depth-eq0.false) (sym c.in-Do.ensures.value))) c.do_statement.ensures

pub statement-returns-in-For : goal.statement-returns-in-For
statement-returns-in-For t c =
    let s = source_of c.args.reader.now in
    let names = c.args.scope.now in
    ok-same (a_stmt s) s names c.for_statement.new.scope c.for_statement.result _ _ (sym (lead-is s c.args.depth (c.args.depth - 1) names c.args.at symbol.For (one-less c.args.depth c.if-depth-eq0.false) (sym c.in-For.ensures.value))) c.for_statement.ensures

pub statement-returns-in-Break : goal.statement-returns-in-Break
statement-returns-in-Break t c =
    let s = source_of c.args.reader.now in
    let names = c.args.scope.now in
    ok-same (a_stmt s) s names names c.break_statement.result _ _ (sym (lead-is s c.args.depth (c.args.depth - 1) names c.args.at symbol.Break (one-less c.args.depth c.if-depth-eq0.false) (sym c.in-Break.ensures.value))) (c.break_statement.ensures (c.args.depth - 1))

pub statement-returns-in-Continue : goal.statement-returns-in-Continue
statement-returns-in-Continue t c =
    let s = source_of c.args.reader.now in
    let names = c.args.scope.now in
    ok-same (a_stmt s) s names names c.continue_statement.result _ _ (sym (lead-is s c.args.depth (c.args.depth - 1) names c.args.at symbol.Continue (one-less c.args.depth c.if-depth-eq0.false) (sym c.in-Continue.ensures.value))) (c.continue_statement.ensures (c.args.depth - 1))

pub statement-returns-in-Return : goal.statement-returns-in-Return
statement-returns-in-Return t c =
    let s = source_of c.args.reader.now in
    let names = c.args.scope.now in
    ok-same (a_stmt s) s names c.return_statement.new.scope c.return_statement.result _ _ (sym (lead-is s c.args.depth (c.args.depth - 1) names c.args.at symbol.Return (one-less c.args.depth c.if-depth-eq0.false) (sym c.in-Return.ensures.value))) c.return_statement.ensures

pub statement-returns-in_default : goal.statement-returns-in_default
statement-returns-in_default t c =
    let s = source_of c.args.reader.now in
    let names = c.args.scope.now in
    let other = lead-other c.symbol.result c.in_default.not-LeftBrace c.in_default.not-If c.in_default.not-Switch c.in_default.not-While c.in_default.not-Do c.in_default.not-For c.in_default.not-Break c.in_default.not-Continue c.in_default.not-Return in
    ok-same (a_stmt s) s names c.expression_statement.new.scope c.expression_statement.result _ _
    (sym (lead-is s c.args.depth (c.args.depth - 1) names c.args.at c.symbol.result (one-less c.args.depth c.if-depth-eq0.false) (sym c.symbol.ensures.value) ∙ ap (stmt_by s (within s (c.args.depth - 1)) names c.args.at) other)) c.expression_statement.ensures

pub block-returns-in_default : goal.block-returns-in_default
block-returns-in_default t c =
    let s = source_of c.args.reader.now in
    let w = within s c.args.depth in
    let names = c.args.scope.now in
    no-block s w names c.args.first (ap (block_items s w (all_turns s) names) (sym c.requires.next)
    ∙ nothing-of (block_items_from s c.args.next) s names c.block_items.new.scope c.in_ok-items.field-0 _ c.in_default.is c.in_ok-items.ensures.read)

pub block-returns : goal.block-returns
block-returns t c =
    let s = source_of c.args.reader.now in
    let w = within s c.args.depth in
    let names = c.args.scope.now in
    let items = c.in-Some.items in
    let at_next = part-of (block_items_from s c.args.next) s names c.block_items.new.scope c.in_ok-items.field-0 items _ c.in-Some.is c.in_ok-items.ensures.read in
    let p = subst (λ n. IsPart (block_items_from s n) s names c.block_items.new.scope items (block_items s w (all_turns s) names n)) c.requires.next at_next in
    let inside : items.after < length c.args.reader.now.tokens.now = some-holds (λ those. those.after < length c.args.reader.now.tokens.now) c.in_ok-items.field-0 items c.in-Some.is c.in_ok-items.ensures.inside in
    ok-along _ _ c.block.result
    (λ made given. block-read s w names c.block_items.new.scope c.end.new.self c.args.first c.len-outer.result items made p c.len-outer.ensures c.in_ok-end.ensures given)
    (c.block.ensures s names c.block_items.new.scope _ p refl (omega (arith, inside)))

pub block_items-loop-turns-init : goal.block_items-loop-turns-init
block_items-loop-turns-init t c =
    let s = source_of c.args.reader.now in
    let w = within s c.args.depth in
    let names = c.args.scope.now in (
      none-part (a_block_item s) (block_row s) s c.args.at names c.none_yet-items.result c.none_yet-items.ensures c.requires,
      sym (ap (λ it. with_row tree.more_items (map view.block_item it.tree) (block_items s w (all_turns s) names it.after)) c.none_yet-items.ensures),
    )

pub block_items-returns-then-is-clause-read : goal.block_items-returns-then-is-clause-read
block_items-returns-then-is-clause-read t c =
    let s = source_of c.args.reader.now in
    let w = within s c.args.depth in
    let names = c.loop-turns.scope in
    let so = c.loop-turns.invariant in
    let ends = seen-is c.symbol.result _ symbol.RightBrace c.is.result true c.symbol.ensures.value c.is.ensures c.if-is.true in
    as-read (block_items_from s c.args.at) s c.args.scope.now names c.loop-turns.items _ _ so.0
    (so.1 ∙ with-empty (a_block_item s) (block_row s) c.loop-turns.items.tree _ (block-end s w c.loop-turns.turns (c.loop-turns.turns - 1) names c.loop-turns.items.after (turns-left c.loop-turns.turns c.loop-turns-test.true) ends))

pub block_items-returns-then-is-clause-inside : goal.block_items-returns-then-is-clause-inside
block_items-returns-then-is-clause-inside t c = c.symbol.ensures.within (not-end c.symbol.result symbol.RightBrace c.is.result c.is.ensures c.if-is.true refl)

pub block_items-returns-in_default-clause-read : goal.block_items-returns-in_default-clause-read
block_items-returns-in_default-clause-read t c =
    let s = source_of c.args.reader.now in
    let w = within s c.args.depth in
    let names = c.loop-turns.scope in
    let goes = seen-is c.symbol.result _ symbol.RightBrace c.is.result false c.symbol.ensures.value c.is.ensures c.if-is.false in
    c.loop-turns.invariant.1 ∙ with-none tree.more_items (map view.block_item c.loop-turns.items.tree) _
    (block-none s w c.loop-turns.turns (c.loop-turns.turns - 1) names c.loop-turns.items.after (turns-left c.loop-turns.turns c.loop-turns-test.true) goes
    (nothing-of (a_block_item s) s names c.block_item.new.scope c.in_ok-item.field-0 _ c.in_default.is c.in_ok-item.ensures))

pub block_items-loop-turns-preserved : goal.block_items-loop-turns-preserved
block_items-loop-turns-preserved t c =
    let s = source_of c.args.reader.now in
    let w = within s c.args.depth in
    let names = c.loop-turns.scope in
    let so = c.loop-turns.invariant in
    let goes = seen-is c.symbol.result _ symbol.RightBrace c.is.result false c.symbol.ensures.value c.is.ensures c.if-is.false in
    block-further s w c.args.at c.loop-turns.turns c.args.scope.now names c.block_item.new.scope c.loop-turns.items c.in_ok-items.items c.in-Some.item _ _ c.loop-turns-test.true goes so.0 so.1
    (part-of (a_block_item s) s names c.block_item.new.scope c.in_ok-item.field-0 c.in-Some.item _ c.in-Some.is c.in_ok-item.ensures) c.in_ok-items.ensures

pub block_items-returns-clause-read : goal.block_items-returns-clause-read
block_items-returns-clause-read t c =
    let s = source_of c.args.reader.now in
    c.loop-turns.invariant.1 ∙ with-none tree.more_items (map view.block_item c.loop-turns.items.tree) _
    (no-block-left s (within s c.args.depth) c.loop-turns.turns c.loop-turns.scope c.loop-turns.items.after (none-left c.loop-turns.turns c.loop-turns-test.false))

pub switch_items-loop-turns-init : goal.switch_items-loop-turns-init
switch_items-loop-turns-init t c =
    let s = source_of c.args.reader.now in
    let w = within s c.args.depth in
    let names = c.args.scope.now in (
      none-part (a_labelled s) (switch_row s) s c.args.at names c.none_yet-items.result c.none_yet-items.ensures c.requires,
      sym (ap (λ it. with_row tree.more_switch_items (map view.switch_item it.tree) (switch_items s w (all_turns s) names it.after)) c.none_yet-items.ensures),
    )

pub switch_items-returns-then-is-clause-read : goal.switch_items-returns-then-is-clause-read
switch_items-returns-then-is-clause-read t c =
    let s = source_of c.args.reader.now in
    let w = within s c.args.depth in
    let names = c.loop-turns.scope in
    let so = c.loop-turns.invariant in
    let ends = seen-is c.symbol.result _ symbol.RightBrace c.is.result true c.symbol.ensures.value c.is.ensures c.if-is.true in
    as-read (switch_items_from s c.args.at) s c.args.scope.now names c.loop-turns.items _ _ so.0
    (so.1 ∙ with-empty (a_labelled s) (switch_row s) c.loop-turns.items.tree _ (switch-end s w c.loop-turns.turns (c.loop-turns.turns - 1) names c.loop-turns.items.after (turns-left c.loop-turns.turns c.loop-turns-test.true) ends))

pub switch_items-returns-then-is-clause-inside : goal.switch_items-returns-then-is-clause-inside
switch_items-returns-then-is-clause-inside t c = c.symbol.ensures.within (not-end c.symbol.result symbol.RightBrace c.is.result c.is.ensures c.if-is.true refl)

pub switch_items-returns-in_default-clause-read : goal.switch_items-returns-in_default-clause-read
switch_items-returns-in_default-clause-read t c =
    let s = source_of c.args.reader.now in
    let w = within s c.args.depth in
    let names = c.loop-turns.scope in
    let goes = seen-is c.symbol.result _ symbol.RightBrace c.is.result false c.symbol.ensures.value c.is.ensures c.if-is.false in
    c.loop-turns.invariant.1 ∙ with-none tree.more_switch_items (map view.switch_item c.loop-turns.items.tree) _
    (switch-none s w c.loop-turns.turns (c.loop-turns.turns - 1) names c.loop-turns.items.after (turns-left c.loop-turns.turns c.loop-turns-test.true) goes
    (nothing-of (a_labelled s) s names c.labelled.new.scope c.in_ok-item.field-0 _ c.in_default.is c.in_ok-item.ensures))

pub switch_items-loop-turns-preserved : goal.switch_items-loop-turns-preserved
switch_items-loop-turns-preserved t c =
    let s = source_of c.args.reader.now in
    let w = within s c.args.depth in
    let names = c.loop-turns.scope in
    let so = c.loop-turns.invariant in
    let goes = seen-is c.symbol.result _ symbol.RightBrace c.is.result false c.symbol.ensures.value c.is.ensures c.if-is.false in
    switch-further s w c.args.at c.loop-turns.turns c.args.scope.now names c.labelled.new.scope c.loop-turns.items c.in_ok-items.items c.in-Some.item _ _ c.loop-turns-test.true goes so.0 so.1
    (part-of (a_labelled s) s names c.labelled.new.scope c.in_ok-item.field-0 c.in-Some.item _ c.in-Some.is c.in_ok-item.ensures) c.in_ok-items.ensures

pub switch_items-returns-clause-read : goal.switch_items-returns-clause-read
switch_items-returns-clause-read t c =
    let s = source_of c.args.reader.now in
    c.loop-turns.invariant.1 ∙ with-none tree.more_switch_items (map view.switch_item c.loop-turns.items.tree) _
    (no-switch-left s (within s c.args.depth) c.loop-turns.turns c.loop-turns.scope c.loop-turns.items.after (none-left c.loop-turns.turns c.loop-turns-test.false))

pub block_item-returns-in_ok-declaration : goal.block_item-returns-in_ok-declaration
block_item-returns-in_ok-declaration t c =
    let s = source_of c.args.reader.now in
    let names = c.args.scope.now in
    gives-along (a_block_item s) s names c.declaration.new.scope c.declared_item.result _ _
    (declared-item-wanted s (within s c.args.depth) names c.args.at (seen-begins c.symbol.result _ c.begins_specifiers.result true c.symbol.ensures.value c.begins_specifiers.ensures c.if-begins_specifiers.true))
    (c.declared_item.ensures s names c.declaration.new.scope _ c.in_ok-declaration.ensures)

pub block_item-returns-in_ok-stmt : goal.block_item-returns-in_ok-stmt
block_item-returns-in_ok-stmt t c =
    let s = source_of c.args.reader.now in
    let names = c.args.scope.now in
    gives-along (a_block_item s) s names c.statement.new.scope c.stated_item.result _ _
    (stated-item-wanted s (within s c.args.depth) names c.args.at (seen-begins c.symbol.result _ c.begins_specifiers.result false c.symbol.ensures.value c.begins_specifiers.ensures c.if-begins_specifiers.false))
    (c.stated_item.ensures s names c.statement.new.scope _ c.in_ok-stmt.ensures)

pub choice-returns-in_default : goal.choice-returns-in_default
choice-returns-in_default t c =
    let s = source_of c.args.reader.now in
    let names = c.args.scope.now in
    no-condition s (within s c.args.depth) names c.args.first (enclosed-here s c.args.depth names c.args.first c.args.next c.requires
    ∙ nothing-of (an_expr s) s names c.enclosed.new.scope c.in_ok-condition.field-0 _ c.in_default.is c.in_ok-condition.ensures.read)

pub choice-returns-in_default-2 : goal.choice-returns-in_default-2
choice-returns-in_default-2 t c =
    let s = source_of c.args.reader.now in
    let names = c.args.scope.now in
    let given = gives-along (an_expr s) s names c.enclosed.new.scope c.in_ok-condition.field-0 _ _ (enclosed-here s c.args.depth names c.args.first c.args.next c.requires) c.in_ok-condition.ensures.read in
    let k = part-of (an_expr s) s names c.enclosed.new.scope c.in_ok-condition.field-0 c.in-Some.condition _ c.in-Some.is given in
    no-branch s (within s c.args.depth) names c.enclosed.new.scope c.args.first c.in-Some.condition k (nothing-of (a_stmt s) s c.enclosed.new.scope c.statement.new.scope c.in_ok-body.field-0 _ c.in_default-2.is c.in_ok-body.ensures)

pub choice-returns : goal.choice-returns
choice-returns t c =
    let s = source_of c.args.reader.now in
    let w = within s c.args.depth in
    let names = c.args.scope.now in
    let mid = c.enclosed.new.scope in
    let condition = c.in-Some.condition in
    let body = c.in-Some-2.body in
    let given = gives-along (an_expr s) s names mid c.in_ok-condition.field-0 _ _ (enclosed-here s c.args.depth names c.args.first c.args.next c.requires) c.in_ok-condition.ensures.read in
    let k = part-of (an_expr s) s names mid c.in_ok-condition.field-0 condition (enclosed_of s w.parts names (c.args.first + 1)) c.in-Some.is given in
    let b = part-of (a_stmt s) s mid c.statement.new.scope c.in_ok-body.field-0 body (w.stmt mid (condition.after + 1)) c.in-Some-2.is c.in_ok-body.ensures in
    let same : c.end.new.self ≡ mid = ended _ mid c.statement.new.scope c.end.new.self c.len-inside.result c.len-inside.ensures b.scoped c.in_ok-end.ensures in
    ok-along _ _ c.otherwise.result
    (λ made there. choice-read s w names mid c.statement.new.scope c.otherwise.new.scope c.args.first condition body made k b there)
    (c.otherwise.ensures names c.statement.new.scope _ _ c.len-kept.ensures (subst (λ those. IsPart (an_expr s) s names those condition (enclosed_of s w.parts names (c.args.first + 1))) (sym same) k)
    (subst (λ those. IsPart (a_stmt s) s those c.statement.new.scope body (w.stmt mid (condition.after + 1))) (sym same) b))

pub otherwise-returns-in_default : goal.otherwise-returns-in_default
otherwise-returns-in_default t c before behind read seen count k b =
    let s = source_of c.args.reader.now in
    let mid = c.args.scope.now in
    ok-along _ _ c.if_alone.result
    (λ made given. no-else-read s (within s c.args.depth) before mid behind c.end.new.self c.args.first c.args.kept c.args.condition c.args.body read seen made count k b c.in_default.ensures c.in_ok-end.ensures given)
    (c.if_alone.ensures s before mid behind read seen k b)

pub otherwise-returns : goal.otherwise-returns
otherwise-returns t c before behind read seen count k b =
    let s = source_of c.args.reader.now in
    let w = within s c.args.depth in
    let mid = c.args.scope.now in
    ok-along _ _ c.if_else.result
    (λ made given. else-read s w before mid behind c.statement.new.scope c.end-2.new.self c.args.first c.in-Some.next c.args.kept c.args.condition c.args.body read seen c.in_ok-other.other made count k b c.in-Some.ensures c.in_ok-other.ensures c.in_ok-end-2.ensures given)
    (c.if_else.ensures s before mid behind c.statement.new.scope read seen _ k b c.in_ok-other.ensures)

pub switch-returns-in_default : goal.switch-returns-in_default
switch-returns-in_default t c =
    let s = source_of c.args.reader.now in
    let names = c.args.scope.now in
    no-subject s (within s c.args.depth) names c.args.first (enclosed-here s c.args.depth names c.args.first c.args.next c.requires
    ∙ nothing-of (an_expr s) s names c.enclosed.new.scope c.in_ok-subject.field-0 _ c.in_default.is c.in_ok-subject.ensures.read)

pub switch-returns-in_default-behind : goal.switch-returns-in_default-behind
switch-returns-in_default-behind t c =
    let s = source_of c.args.reader.now in
    let names = c.args.scope.now in
    let given = gives-along (an_expr s) s names c.enclosed.new.scope c.in_ok-subject.field-0 _ _ (enclosed-here s c.args.depth names c.args.first c.args.next c.requires) c.in_ok-subject.ensures.read in
    let k = part-of (an_expr s) s names c.enclosed.new.scope c.in_ok-subject.field-0 c.in-Some.subject _ c.in-Some.is given in
    no-brace s (within s c.args.depth) names c.enclosed.new.scope c.args.first c.in-Some.subject k c.in_default-behind.ensures

pub switch-returns-in_default-2 : goal.switch-returns-in_default-2
switch-returns-in_default-2 t c =
    let s = source_of c.args.reader.now in
    let w = within s c.args.depth in
    let names = c.args.scope.now in
    let mid = c.enclosed.new.scope in
    let given = gives-along (an_expr s) s names mid c.in_ok-subject.field-0 _ _ (enclosed-here s c.args.depth names c.args.first c.args.next c.requires) c.in_ok-subject.ensures.read in
    let k = part-of (an_expr s) s names mid c.in_ok-subject.field-0 c.in-Some.subject _ c.in-Some.is given in
    switch-wanted s w names mid c.args.first c.in-Some-behind.inside c.in-Some.subject k c.in-Some-behind.ensures
    ∙ then-none _ _ (nothing-of (switch_items_from s c.in-Some-behind.inside) s mid c.switch_items.new.scope c.in_ok-items.field-0 _ c.in_default-2.is c.in_ok-items.ensures.read)

pub switch-returns : goal.switch-returns
switch-returns t c =
    let s = source_of c.args.reader.now in
    let w = within s c.args.depth in
    let names = c.args.scope.now in
    let mid = c.enclosed.new.scope in
    let subject = c.in-Some.subject in
    let items = c.in-Some-2.items in
    let next = c.in-Some-behind.inside in
    let given = gives-along (an_expr s) s names mid c.in_ok-subject.field-0 _ _ (enclosed-here s c.args.depth names c.args.first c.args.next c.requires) c.in_ok-subject.ensures.read in
    let k = part-of (an_expr s) s names mid c.in_ok-subject.field-0 subject (enclosed_of s w.parts names (c.args.first + 1)) c.in-Some.is given in
    let p = part-of (switch_items_from s next) s mid c.switch_items.new.scope c.in_ok-items.field-0 items (switch_items s w (all_turns s) mid next) c.in-Some-2.is c.in_ok-items.ensures.read in
    let behind : next ≡ (subject.after + 1) + 1 = c.in-Some-behind.ensures.1 in
    let place : next ≡ subject.after + 2 = omega (arith, behind) in
    let before_end : items.after < length c.args.reader.now.tokens.now = some-holds (λ those. those.after < length c.args.reader.now.tokens.now) c.in_ok-items.field-0 items c.in-Some-2.is c.in_ok-items.ensures.inside in
    ok-along _ _ c.switch_on.result
    (λ made there. switch-read s w names mid c.switch_items.new.scope c.end.new.self c.args.first next c.len-kept.result subject items made k c.in-Some-behind.ensures p c.len-kept.ensures c.in_ok-end.ensures there)
    (c.switch_on.ensures s names mid c.switch_items.new.scope _ _ k (subst (λ n. IsPart (switch_items_from s n) s mid c.switch_items.new.scope items (switch_items s w (all_turns s) mid next)) place p) refl (omega (arith, before_end)))

pub labelled-returns-then-depth-eq0 : goal.labelled-returns-then-depth-eq0
labelled-returns-then-depth-eq0 t c = no-labelled (source_of c.args.reader.now) c.args.depth c.args.scope.now c.args.at c.if-depth-eq0.true

pub labelled-returns-in-Case : goal.labelled-returns-in-Case
labelled-returns-in-Case t c =
    let s = source_of c.args.reader.now in
    let names = c.args.scope.now in
    ok-same (a_labelled s) s names c.case.new.scope c.case.result _ _ (sym (case-wanted s c.args.depth (c.args.depth - 1) names c.args.at (one-less c.args.depth c.if-depth-eq0.false) (sym c.in-Case.ensures.value))) c.case.ensures

pub labelled-returns-in-Default : goal.labelled-returns-in-Default
labelled-returns-in-Default t c =
    let s = source_of c.args.reader.now in
    let names = c.args.scope.now in
    ok-same (a_labelled s) s names c.default.new.scope c.default.result _ _ (sym (default-wanted s c.args.depth (c.args.depth - 1) names c.args.at (one-less c.args.depth c.if-depth-eq0.false) (sym c.in-Default.ensures.value))) c.default.ensures

pub labelled-returns-in_ok-stmt-in_default : goal.labelled-returns-in_ok-stmt-in_default
labelled-returns-in_ok-stmt-in_default t c =
    let s = source_of c.args.reader.now in
    let names = c.args.scope.now in
    let seen = sym c.symbol.ensures.value in
    gives-along (a_labelled s) s names c.statement.new.scope c.unlabelled.result _ _
    (unlabelled-wanted s c.args.depth (c.args.depth - 1) names c.args.at (one-less c.args.depth c.if-depth-eq0.false)
    (ap (λ it. is it symbol.Case) seen ∙ is-not c.symbol.result symbol.Case c.in_default.not-Case) (ap (λ it. is it symbol.Default) seen ∙ is-not c.symbol.result symbol.Default c.in_default.not-Default))
    (c.unlabelled.ensures s names c.statement.new.scope _ c.in_ok-stmt-in_default.ensures)

pub case-returns-in_default : goal.case-returns-in_default
case-returns-in_default t c =
    let s = source_of c.args.reader.now in
    let names = c.args.scope.now in
    no-label s c.args.depth names c.args.first (ap ((lower s c.args.depth).expr 2 names) (sym c.requires)
    ∙ nothing-of (an_expr s) s names c.expr.new.scope c.in_ok-label.field-0 _ c.in_default.is c.in_ok-label.ensures)

pub case-returns-in_default-behind : goal.case-returns-in_default-behind
case-returns-in_default-behind t c =
    let s = source_of c.args.reader.now in
    let names = c.args.scope.now in
    let given = gives-along (an_expr s) s names c.expr.new.scope c.in_ok-label.field-0 _ _ (ap ((lower s c.args.depth).expr 2 names) (sym c.requires)) c.in_ok-label.ensures in
    let k = part-of (an_expr s) s names c.expr.new.scope c.in_ok-label.field-0 c.in-Some.label _ c.in-Some.is given in
    no-colon s c.args.depth names c.expr.new.scope c.args.first c.in-Some.label k c.in_default-behind.ensures

pub case-returns : goal.case-returns
case-returns t c =
    let s = source_of c.args.reader.now in
    let names = c.args.scope.now in
    let given = gives-along (an_expr s) s names c.expr.new.scope c.in_ok-label.field-0 _ _ (ap ((lower s c.args.depth).expr 2 names) (sym c.requires)) c.in_ok-label.ensures in
    let k = part-of (an_expr s) s names c.expr.new.scope c.in_ok-label.field-0 c.in-Some.label _ c.in-Some.is given in
    ok-same (a_labelled s) s names c.labelled.new.scope c.case_of.result _ _ (sym (labelled-behind s c.args.depth names c.expr.new.scope c.args.first c.in-Some-behind.next c.in-Some.label k c.in-Some-behind.ensures))
    (c.case_of.ensures s names c.expr.new.scope c.labelled.new.scope _ _ k c.in_ok-item.ensures)

pub default-returns-in_default : goal.default-returns-in_default
default-returns-in_default t c =
    no-default-colon (source_of c.args.reader.now) (within (source_of c.args.reader.now) c.args.depth) c.args.scope.now c.args.first c.args.next c.requires c.in_default.ensures

pub default-returns : goal.default-returns
default-returns t c =
    let s = source_of c.args.reader.now in
    let names = c.args.scope.now in
    ok-same (a_labelled s) s names c.labelled.new.scope c.default_of.result _ _ (sym (default-behind s (within s c.args.depth) names c.args.first c.args.next c.in-Some.next c.requires c.in-Some.ensures))
    (c.default_of.ensures s names c.labelled.new.scope _ c.in_ok-item.ensures)

pub while_statement-returns-in_default : goal.while_statement-returns-in_default
while_statement-returns-in_default t c =
    let s = source_of c.args.reader.now in
    let names = c.args.scope.now in
    no-loop-test s (within s c.args.depth) names c.args.first (enclosed-here s c.args.depth names c.args.first c.args.next c.requires
    ∙ nothing-of (an_expr s) s names c.enclosed.new.scope c.in_ok-condition.field-0 _ c.in_default.is c.in_ok-condition.ensures.read)

pub while_statement-returns : goal.while_statement-returns
while_statement-returns t c =
    let s = source_of c.args.reader.now in
    let w = within s c.args.depth in
    let names = c.args.scope.now in
    let mid = c.enclosed.new.scope in
    let given = gives-along (an_expr s) s names mid c.in_ok-condition.field-0 _ _ (enclosed-here s c.args.depth names c.args.first c.args.next c.requires) c.in_ok-condition.ensures.read in
    let k = part-of (an_expr s) s names mid c.in_ok-condition.field-0 c.in-Some.condition (enclosed_of s w.parts names (c.args.first + 1)) c.in-Some.is given in
    ok-along _ _ c.while_loop.result
    (λ made there. while-read s w names mid c.statement.new.scope c.end.new.self c.args.first c.len-kept.result c.in-Some.condition c.in_ok-body.body made k c.in_ok-body.ensures c.len-kept.ensures c.in_ok-end.ensures there)
    (c.while_loop.ensures s names mid c.statement.new.scope _ _ k c.in_ok-body.ensures)

pub do_statement-returns-in_default : goal.do_statement-returns-in_default
do_statement-returns-in_default t c =
    let s = source_of c.args.reader.now in
    let w = within s c.args.depth in
    let names = c.args.scope.now in
    no-body s w names c.args.first (ap (w.stmt names) (sym c.requires) ∙ nothing-of (a_stmt s) s names c.statement.new.scope c.in_ok-body.field-0 _ c.in_default.is c.in_ok-body.ensures)

pub do_statement-returns : goal.do_statement-returns
do_statement-returns t c =
    let s = source_of c.args.reader.now in
    let w = within s c.args.depth in
    let names = c.args.scope.now in
    let mid = c.statement.new.scope in
    let body = c.in-Some.body in
    let given = gives-along (a_stmt s) s names mid c.in_ok-body.field-0 _ _ (ap (w.stmt names) (sym c.requires)) c.in_ok-body.ensures in
    let b = part-of (a_stmt s) s names mid c.in_ok-body.field-0 body (w.stmt names (c.args.first + 1)) c.in-Some.is given in
    let same : c.end.new.self ≡ names = ended _ names mid c.end.new.self c.len-kept.result c.len-kept.ensures b.scoped c.in_ok-end.ensures in
    ok-along _ _ c.repeated.result
    (λ made there. do-read s w names mid c.end.new.self c.repeated.new.scope c.args.first body made b same there)
    (c.repeated.ensures mid _ (subst (λ those. IsPart (a_stmt s) s those mid body (w.stmt names (c.args.first + 1))) (sym same) b))

pub for_statement-returns-in_default : goal.for_statement-returns-in_default
for_statement-returns-in_default t c =
    let s = source_of c.args.reader.now in
    let names = c.args.scope.now in
    no-clauses-begin s (within s c.args.depth) names c.args.first (ap (λ n. stands s names n symbol.LeftParen) (sym c.requires) ∙ c.in_default.ensures)

pub for_statement-returns-in_default-2 : goal.for_statement-returns-in_default-2
for_statement-returns-in_default-2 t c =
    let s = source_of c.args.reader.now in
    let w = within s c.args.depth in
    let names = c.args.scope.now in
    let start : c.args.next ≡ c.args.first + 1 = c.requires in
    let behind : c.in-Some.inside ≡ c.args.next + 1 = c.in-Some.ensures.1 in
    no-clauses s w names c.args.first c.in-Some.inside (ap (λ n. stands s names n symbol.LeftParen) (sym c.requires) ∙ c.in-Some.ensures.0) (omega (arith, start, behind))
    (nothing-of (clauses_from s c.in-Some.inside) s names c.for_clauses.new.scope c.in_ok-clauses.field-0 _ c.in_default-2.is c.in_ok-clauses.ensures)

pub for_statement-returns : goal.for_statement-returns
for_statement-returns t c =
    let s = source_of c.args.reader.now in
    let w = within s c.args.depth in
    let names = c.args.scope.now in
    let three = c.for_clauses.new.scope in
    let clauses = c.in-Some-2.clauses in
    let start : c.args.next ≡ c.args.first + 1 = c.requires in
    let behind : c.in-Some.inside ≡ c.args.next + 1 = c.in-Some.ensures.1 in
    let h = part-of (clauses_from s c.in-Some.inside) s names three c.in_ok-clauses.field-0 clauses (clauses_of s w names c.in-Some.inside) c.in-Some-2.is c.in_ok-clauses.ensures in
    ok-along _ _ c.for_loop.result
    (λ made there. for-read s w names three c.statement.new.scope c.end.new.self c.args.first c.in-Some.inside c.len-kept.result clauses c.in_ok-body.body made (ap (λ n. stands s names n symbol.LeftParen) (sym c.requires) ∙ c.in-Some.ensures.0) (omega (arith, start, behind)) h
    c.in_ok-body.ensures c.len-kept.ensures c.in_ok-end.ensures there)
    (c.for_loop.ensures s names three c.statement.new.scope c.in-Some.inside _ _ h c.in_ok-body.ensures)
