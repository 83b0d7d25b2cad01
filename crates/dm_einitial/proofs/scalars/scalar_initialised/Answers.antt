-- The value is an initialiser by itself.
use Rattle.std.specs.Prelude.{length}
use Rattle.std.proofs.Common.{ap, sym, ◌∙◌, subst}
use Rattle.dm_typing.specs.Known.{given, with_it}
use Rattle.dm_typing.specs.Views.{known_over, view_over, type_over, source_of, Gives}
use Rattle.dm_edecl.specs.Initialising.{single}
use Rattle.dm_einitial.specs.Steps.{initial_over, scalar_value}
use Rattle.dm_einitial.proofs.ScalarLemmas.{handed-with, scalar-is}
use Rattle.dm_einitial.proofs.scalars.scalar_initialised.Goals as goal

pub returns-in_err-made-clause-gives : goal.returns-in_err-made-clause-gives
returns-in_err-made-clause-gives c = λ later begins.
    let known = known_over later c.args.known.now in
    let value = view_over later c.args.value in
    subst (λ o. Gives (initial_over later) (source_of c.args.typer.now) known c.from_residual.result o) (sym (scalar-is known c.args.fixed (type_over later c.args.kind) c.args.here value))
    (handed-with (view_over later) (initial_over later) (source_of c.args.typer.now) known known c.from_residual.result c.in_err-made.field-0.0
    (scalar_value known c.args.fixed (type_over later c.args.kind) c.args.here value) (λ behind tree. single tree) c.from_residual.ensures.1 (c.in_err-made.ensures.gives later begins))

pub returns-clause-gives : goal.returns-clause-gives
returns-clause-gives c = λ later begins.
    let known = known_over later c.args.known.now in
    scalar-is known c.args.fixed (type_over later c.args.kind) c.args.here (view_over later c.args.value)
    ∙ ap (λ o. with_it o (λ behind tree. single tree)) (c.in_ok-made.ensures.gives later begins)
    ∙ ap (given known) (sym (c.in_ok-initial.ensures.view later))

pub returns-clause-numbered : goal.returns-clause-numbered
returns-clause-numbered c = c.in_ok-initial.ensures.known (length c.args.known.now.types.shapes) ∙ c.in_ok-made.ensures.numbered
