-- The value of the scalar, in as many braces as parts are round it.
use Rattle.std.specs.Prelude.{length}
use Rattle.std.proofs.Common.{ap, ap₂, sym, ◌∙◌, subst}
use Rattle.dm_typing.specs.Known.{given, with_it}
use Rattle.dm_typing.specs.Views.{known_over, view_over, type_over, source_of, Gives}
use Rattle.dm_typing.proofs.GivesLemmas.{grown}
use Rattle.dm_edecl.specs.Initialising.{single, braced, zero_initialised}
use Rattle.dm_einitial.specs.Steps.{initial_over, first_over, scalar_value}
use Rattle.dm_einitial.proofs.ScalarLemmas.{handed-with, zero-is}
use Rattle.dm_einitial.proofs.scalars.zero_initialised.Goals as goal

pub returns-in_err-made-clause-gives : goal.returns-in_err-made-clause-gives
returns-in_err-made-clause-gives c = λ later begins.
    let new = c.as_value.new.known in
    let first = first_over later c.args.first in
    let value = view_over later c.in_ok-value.value in
    let is = ap₂ (λ known tree. zero_initialised known c.args.fixed first c.args.here tree) (grown later c.args.known.now new c.as_value.ensures.grows) (sym (c.in_ok-value.ensures.value later begins))
    ∙ zero-is (known_over later new) c.args.fixed first c.args.here value in
    subst (λ o. Gives (initial_over later) (source_of c.args.typer.now) (known_over later new) c.from_residual-in_err-made.result o) (sym is)
    (handed-with (view_over later) (initial_over later) (source_of c.args.typer.now) (known_over later new) (known_over later new) c.from_residual-in_err-made.result c.in_err-made.field-0.0
    (scalar_value (known_over later new) c.args.fixed (type_over later c.args.first.kind) c.args.here value) (λ behind tree. braced c.args.first.depth (single tree)) c.from_residual-in_err-made.ensures.1 (c.in_err-made.ensures.gives later begins))

pub returns-clause-gives : goal.returns-clause-gives
returns-clause-gives c = λ later begins.
    let new = c.as_value.new.known in
    let first = first_over later c.args.first in
    let value = view_over later c.in_ok-value.value in
    ap₂ (λ known tree. zero_initialised known c.args.fixed first c.args.here tree) (grown later c.args.known.now new c.as_value.ensures.grows) (sym (c.in_ok-value.ensures.value later begins))
    ∙ zero-is (known_over later new) c.args.fixed first c.args.here value
    ∙ ap (λ o. with_it o (λ behind tree. braced c.args.first.depth (single tree))) (c.in_ok-made.ensures.gives later begins)
    ∙ ap (given (known_over later new)) (sym (c.in_ok-initial.ensures.view later))

pub returns-clause-numbered : goal.returns-clause-numbered
returns-clause-numbered c = c.in_ok-initial.ensures.known (length c.as_value.new.known.types.shapes) ∙ c.in_ok-made.ensures.numbered
