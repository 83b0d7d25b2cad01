-- An array of unknown length is as long as is said.
use Rattle.std.proofs.Common.{◌≡◌, ap, sym, ◌∙◌}
use Rattle.std.specs.Prelude.{List, Some}
use Rattle.dm_type.specs.declared.shape.Shape.{Shape}
use Rattle.dm_syn.specs.Views as syntax
use Rattle.dm_typing.specs.Views.{Begins, type_over, setting_of}
use Rattle.dm_typing.proofs.LaterLemmas.{begins-on, type-later}
use Rattle.dm_edecl.specs.Initialising.{completed}
use Rattle.dm_einitial.specs.Steps.{unsized_elements, sized}
use Rattle.dm_einitial.proofs.LengthLemmas.{if-ok, completed-sized, completed-same}
use Rattle.dm_einitial.proofs.lengths.completed.Goals as goal

pub returns-in-Some-clause-kind : goal.returns-in-Some-clause-kind
returns-in-Some-clause-kind c =
    let old = c.args.known.now.types.shapes in
    let new = c.sized.new.known.types.shapes in
    if-ok (λ id. (later : List Shape) → Begins new later → type_over later id ≡ sized (type_over later c.args.kind) (type_over later c.in-Some.inner) c.said_length.result)
    (λ id. (later : List Shape) → Begins new later → type_over later id ≡ completed (setting_of c.args.typer.now) (type_over later c.args.kind) (syntax.initialiser c.args.initialiser.now))
    c.sized.result
    (λ id is later begins.
    let on = begins-on old new later c.sized.ensures.grows.shapes begins in
    is later begins
    ∙ ap (sized (type_over later c.args.kind) (type_over later c.in-Some.inner)) c.said_length.ensures.length
    ∙ sym (completed-sized (setting_of c.args.typer.now) (type_over later c.args.kind) (type_over later c.in-Some.inner) (syntax.initialiser c.args.initialiser.now)
    (ap Some (type-later old later c.in-Some.inner on c.in-Some.ensures.numbered) ∙ (c.in-Some.ensures.elements ∙ ap unsized_elements (sym (type-later old later c.args.kind on c.requires))))))
    c.sized.ensures.kind

pub returns-in-None-clause-kind : goal.returns-in-None-clause-kind
returns-in-None-clause-kind c = λ later begins.
    sym (completed-same (setting_of c.args.typer.now) (type_over later c.args.kind) (syntax.initialiser c.args.initialiser.now)
    (c.in-None.ensures.elements ∙ ap unsized_elements (sym (type-later c.args.known.now.types.shapes later c.args.kind begins c.requires))))
