-- By the symbol of the operator.
use Rattle.std.proofs.Common.{ap, sym, ◌∙◌}
use Rattle.dm_syn.specs.Sources.{symbol_at}
use Rattle.dm_tree.specs.declared.tree.Core.{Core}
use Rattle.dm_typing.specs.Typing.{typed_binary, typed_operation}
use Rattle.dm_typing.specs.Views.{view_over, known_over, source_of, setting_of}
use Rattle.dm_typing.proofs.GivesLemmas.{refused, gives-so}
use Rattle.dm_ebinary.proofs.BinaryLemmas.{binary-other}
use Rattle.dm_ebinary.proofs.operations.typed_binary.Goals as goal

pub returns-in-And-clause-gives : goal.returns-in-And-clause-gives
returns-in-And-clause-gives c = λ later begins.
    gives-so {A = Core} (view_over later) (source_of c.args.typer.now) (known_over later c.typed_both.new.known) c.typed_both.result _ _
    (ap (typed_binary (setting_of c.args.typer.now) (known_over later c.args.known.now) c.args.at c.args.operator (view_over later c.args.a) (view_over later c.args.b)) c.in-And.ensures)
    (c.typed_both.ensures.gives later begins)

pub returns-in-Or-clause-gives : goal.returns-in-Or-clause-gives
returns-in-Or-clause-gives c = λ later begins.
    gives-so {A = Core} (view_over later) (source_of c.args.typer.now) (known_over later c.typed_either.new.known) c.typed_either.result _ _
    (ap (typed_binary (setting_of c.args.typer.now) (known_over later c.args.known.now) c.args.at c.args.operator (view_over later c.args.a) (view_over later c.args.b)) c.in-Or.ensures)
    (c.typed_either.ensures.gives later begins)

pub returns-in-Some-clause-gives : goal.returns-in-Some-clause-gives
returns-in-Some-clause-gives c = λ later begins.
    let setting = setting_of c.args.typer.now in
    let known = known_over later c.args.known.now in
    let a = view_over later c.args.a in
    let b = view_over later c.args.b in
    gives-so {A = Core} (view_over later) (source_of c.args.typer.now) (known_over later c.typed_operator.new.known) c.typed_operator.result _ _
    (ap (typed_operation setting known c.args.at a b) c.in-Some.ensures
    ∙ sym (binary-other setting known c.args.at c.args.operator a b (symbol_at (source_of c.args.typer.now) c.args.operator)
    (λ e. c.in_default.not-And (c.symbol.ensures ∙ e)) (λ e. c.in_default.not-Or (c.symbol.ensures ∙ e))))
    (c.typed_operator.ensures.gives later begins)

pub returns-in-None-clause-gives : goal.returns-in-None-clause-gives
returns-in-None-clause-gives c = λ later begins.
    let setting = setting_of c.args.typer.now in
    let known = known_over later c.args.known.now in
    let a = view_over later c.args.a in
    let b = view_over later c.args.b in
    refused {A = Core} (view_over later) (source_of c.args.typer.now) known _ 19 c.args.at.inner.first c.broken.result
    (binary-other setting known c.args.at c.args.operator a b (symbol_at (source_of c.args.typer.now) c.args.operator)
    (λ e. c.in_default.not-And (c.symbol.ensures ∙ e)) (λ e. c.in_default.not-Or (c.symbol.ensures ∙ e))
    ∙ ap (typed_operation setting known c.args.at a b) (sym c.in-None.ensures))
    c.broken.ensures
