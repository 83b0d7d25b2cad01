-- By the symbol of the operator.
use Rattle.std.proofs.Common.{ap, sym, ◌∙◌}
use Rattle.dm_syn.specs.Sources.{symbol_at}
use Rattle.dm_tree.specs.declared.tree.Core.{Core}
use Rattle.dm_typing.specs.Typing.{typed_assignment, typed_update}
use Rattle.dm_typing.specs.Views.{view_over, known_over, source_of, setting_of}
use Rattle.dm_typing.proofs.GivesLemmas.{refused, gives-so}
use Rattle.dm_ebinary.proofs.AssignLemmas.{assignment-other}
use Rattle.dm_ebinary.proofs.assignments.typed_assignment.Goals as goal

pub returns-in-Equals-clause-gives : goal.returns-in-Equals-clause-gives
returns-in-Equals-clause-gives c = λ later begins.
    gives-so {A = Core} (view_over later) (source_of c.args.typer.now) (known_over later c.args.known.now) c.typed_store.result _ _
    (ap (typed_assignment (setting_of c.args.typer.now) (known_over later c.args.known.now) c.args.at c.args.operator (view_over later c.args.object) (view_over later c.args.value)) c.in-Equals.ensures)
    (c.typed_store.ensures.gives later begins)

pub returns-in-Some-clause-gives : goal.returns-in-Some-clause-gives
returns-in-Some-clause-gives c = λ later begins.
    let setting = setting_of c.args.typer.now in
    let known = known_over later c.args.known.now in
    let object = view_over later c.args.object in
    let value = view_over later c.args.value in
    gives-so {A = Core} (view_over later) (source_of c.args.typer.now) (known_over later c.updated.new.known) c.updated.result _ _
    (ap (typed_update setting known c.args.at object value) c.in-Some.ensures
    ∙ sym (assignment-other setting known c.args.at c.args.operator object value (symbol_at (source_of c.args.typer.now) c.args.operator)
    (λ e. c.in_default.not-Equals (c.symbol.ensures ∙ e))))
    (c.updated.ensures.gives later begins)

pub returns-in-None-clause-gives : goal.returns-in-None-clause-gives
returns-in-None-clause-gives c = λ later begins.
    let setting = setting_of c.args.typer.now in
    let known = known_over later c.args.known.now in
    let object = view_over later c.args.object in
    let value = view_over later c.args.value in
    refused {A = Core} (view_over later) (source_of c.args.typer.now) known _ 29 c.args.at.inner.first c.broken.result
    (assignment-other setting known c.args.at c.args.operator object value (symbol_at (source_of c.args.typer.now) c.args.operator)
    (λ e. c.in_default.not-Equals (c.symbol.ensures ∙ e))
    ∙ ap (typed_update setting known c.args.at object value) (sym c.in-None.ensures))
    c.broken.ensures
