-- An expression by itself, and the items of a list one after another.
use Rattle.std.specs.Prelude.{◌+◌, List, map, drop}
use Rattle.std.proofs.Common.{sym, ap, ◌∙◌, subst}
use Rattle.dm_type.specs.declared.shape.Shape.{Shape}
use Rattle.dm_syn.specs.Views as syntax
use Rattle.dm_typing.specs.Known.{Known, given, after}
use Rattle.dm_typing.specs.Views.{known_over, source_of, setting_of}
use Rattle.dm_edecl.specs.Initialising.{expressions_alone, all_expressions_alone}
use Rattle.dm_edeclarator.specs.Steps.{Anything, Follows}
use Rattle.dm_einitial.specs.Steps.{nothing_over, dropped}
use Rattle.dm_eexpr.proofs.LoopLemmas.{cut, past}
use Rattle.dm_einitial.proofs.ListLemmas.{alone-braces, alone-none, alone-more}
use Rattle.dm_edeclarator.proofs.ReachLemmas.{says, passes, fails, done, relays, alike}
use Rattle.dm_einitial.proofs.SyntaxLemmas.{initialiser-value, initialiser-braces}
use Rattle.dm_einitial.proofs.lists.+alone.Goals as goal

pub expressions_alone-returns-in-Value : goal.expressions_alone-returns-in-Value
expressions_alone-returns-in-Value t c =
    subst (λ one. Follows Anything nothing_over (source_of c.args.typer.now) c.args.known.now c.expression_alone.new.known c.expression_alone.result (λ later. dropped (expressions_alone (setting_of c.args.typer.now) (known_over later c.args.known.now) one)))
    (sym (initialiser-value c.args.initialiser.now c.in-Value.expr c.in-Value.is)) (c.expression_alone.ensures c.args.initialiser.now.span)

pub expressions_alone-returns-in-Braces : goal.expressions_alone-returns-in-Braces
expressions_alone-returns-in-Braces t c =
    let setting = setting_of c.args.typer.now in
    let old = c.args.known.now in
    alike Anything nothing_over (source_of c.args.typer.now) old c.all_expressions_alone.new.known
    (λ later. dropped (expressions_alone setting (known_over later old) (syntax.initialiser c.args.initialiser.now)))
    (λ later. dropped (all_expressions_alone setting (known_over later old) (syntax.initialisers (map syntax.initialiser c.items.result.now))))
    (λ later. ap (λ one. dropped (expressions_alone setting (known_over later old) one)) (initialiser-braces c.args.initialiser.now c.in-Braces.items c.in-Braces.trailing c.in-Braces.is)
    ∙ ap dropped (alone-braces setting (known_over later old) c.args.initialiser.now.span (syntax.initialisers (map syntax.initialiser c.in-Braces.items)) c.in-Braces.trailing)
    ∙ ap (λ items. dropped (all_expressions_alone setting (known_over later old) (syntax.initialisers (map syntax.initialiser items)))) (sym c.items.ensures))
    c.all_expressions_alone.result c.all_expressions_alone.ensures

pub all_expressions_alone-returns-in_err-expressions_alone : goal.all_expressions_alone-returns-in_err-expressions_alone
all_expressions_alone-returns-in_err-expressions_alone t c =
    let setting = setting_of c.args.typer.now in
    let old = c.args.known.now in
    let now = c.loop-item.known in
    let i = c.loop-item.item-index in
    let items = c.args.items.now in
    let item = syntax.initialiser c.item-item.result in
    let others = syntax.initialisers (map syntax.initialiser (drop (i + 1) items)) in
    let reached = says old now (λ later. dropped (all_expressions_alone setting (known_over later old) (syntax.initialisers (map syntax.initialiser items))))
    (λ later. dropped (all_expressions_alone setting (known_over later now) (syntax.initialisers (map syntax.initialiser (drop i items)))))
    (λ later. after (dropped (expressions_alone setting (known_over later now) item)) (λ then_known nothing. dropped (all_expressions_alone setting then_known others)))
    c.loop-item.invariant
    (λ later on. ap (λ xs. dropped (all_expressions_alone setting (known_over later now) (syntax.initialisers (map syntax.initialiser xs)))) (cut items i c.item-item.result c.loop-item-test.true c.item-item.is)
    ∙ alone-more setting (known_over later now) item others) in
    relays Anything nothing_over (source_of c.args.typer.now) old c.expressions_alone.new.known (λ later. dropped (all_expressions_alone setting (known_over later old) (syntax.initialisers (map syntax.initialiser items)))) c.from_residual.result c.in_err-expressions_alone.field-0.0 c.from_residual.ensures.1
    (fails Anything nothing_over (source_of c.args.typer.now) old now c.expressions_alone.new.known (λ later. dropped (all_expressions_alone setting (known_over later old) (syntax.initialisers (map syntax.initialiser items)))) Anything nothing_over
    (λ later. dropped (expressions_alone setting (known_over later now) item)) (λ (later : List Shape) (then_known : Known) nothing. dropped (all_expressions_alone setting then_known others)) c.in_err-expressions_alone.field-0.0 reached c.in_err-expressions_alone.ensures)

pub all_expressions_alone-loop-item-preserved : goal.all_expressions_alone-loop-item-preserved
all_expressions_alone-loop-item-preserved t c =
    let setting = setting_of c.args.typer.now in
    let old = c.args.known.now in
    let now = c.loop-item.known in
    let i = c.loop-item.item-index in
    let items = c.args.items.now in
    let item = syntax.initialiser c.item-item.result in
    let others = syntax.initialisers (map syntax.initialiser (drop (i + 1) items)) in
    let reached = says old now (λ later. dropped (all_expressions_alone setting (known_over later old) (syntax.initialisers (map syntax.initialiser items))))
    (λ later. dropped (all_expressions_alone setting (known_over later now) (syntax.initialisers (map syntax.initialiser (drop i items)))))
    (λ later. after (dropped (expressions_alone setting (known_over later now) item)) (λ then_known nothing. dropped (all_expressions_alone setting then_known others)))
    c.loop-item.invariant
    (λ later on. ap (λ xs. dropped (all_expressions_alone setting (known_over later now) (syntax.initialisers (map syntax.initialiser xs)))) (cut items i c.item-item.result c.loop-item-test.true c.item-item.is)
    ∙ alone-more setting (known_over later now) item others) in
    passes Anything nothing_over (source_of c.args.typer.now) old now c.expressions_alone.new.known (λ later. dropped (all_expressions_alone setting (known_over later old) (syntax.initialisers (map syntax.initialiser items))))
    (λ later. dropped (expressions_alone setting (known_over later now) item)) (λ (later : List Shape) (then_known : Known) nothing. dropped (all_expressions_alone setting then_known others)) c.in_ok-expressions_alone.field-0 reached c.in_ok-expressions_alone.ensures

pub all_expressions_alone-returns : goal.all_expressions_alone-returns
all_expressions_alone-returns t c =
    let setting = setting_of c.args.typer.now in
    let old = c.args.known.now in
    let now = c.loop-item.known in
    let i = c.loop-item.item-index in
    let items = c.args.items.now in
    done Anything nothing_over (source_of c.args.typer.now) old now (λ later. dropped (all_expressions_alone setting (known_over later old) (syntax.initialisers (map syntax.initialiser items)))) _
    (says old now (λ later. dropped (all_expressions_alone setting (known_over later old) (syntax.initialisers (map syntax.initialiser items))))
    (λ later. dropped (all_expressions_alone setting (known_over later now) (syntax.initialisers (map syntax.initialiser (drop i items))))) (λ later. given (known_over later now) tt) c.loop-item.invariant
    (λ later on. ap (λ xs. dropped (all_expressions_alone setting (known_over later now) (syntax.initialisers (map syntax.initialiser xs)))) (past items i c.loop-item-test.false)
    ∙ alone-none setting (known_over later now))) tt
