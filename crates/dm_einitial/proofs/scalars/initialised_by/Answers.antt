-- A scalar by a value, or an array of characters by a string literal.
use Rattle.std.proofs.Common.{ap, sym, ◌∙◌, subst}
use Rattle.dm_syn.specs.Views as syntax
use Rattle.dm_tree.specs.Scenes.{is_scalar}
use Rattle.dm_tree.specs.declared.tree.Initial.{Initial}
use Rattle.std.specs.Prelude.{true, false, length}
use Rattle.dm_typing.specs.Known.{given}
use Rattle.dm_typing.specs.Views.{known_over, view_over, type_over, source_of, setting_of, Gives}
use Rattle.dm_typing.proofs.GivesLemmas.{refused}
use Rattle.dm_typing.proofs.LaterLemmas.{begins-on, type-later}
use Rattle.dm_edecl.specs.Initialising.{is_string_for}
use Rattle.dm_einitial.specs.Steps.{initial_over}
use Rattle.dm_einitial.proofs.ScalarLemmas.{by-scalar, by-string}
use Rattle.dm_einitial.proofs.scalars.initialised_by.Goals as goal

pub returns-then-is_scalar-clause-gives : goal.returns-then-is_scalar-clause-gives
returns-then-is_scalar-clause-gives c = λ later begins.
    let old = c.args.known.now.types.shapes in
    let new = c.scalar_by.new.known in
    let on = begins-on old new.types.shapes later c.scalar_by.ensures.grows.shapes begins in
    subst (λ o. Gives (initial_over later) (source_of c.args.typer.now) (known_over later new) c.scalar_by.result o)
    (sym (by-scalar (setting_of c.args.typer.now) (known_over later c.args.known.now) c.args.fixed (type_over later c.args.kind) c.args.here (syntax.expr c.args.expr.now) (view_over later c.args.tree)
    (ap is_scalar (type-later old later c.args.kind on c.requires.kind) ∙ sym c.is_scalar.ensures ∙ c.if-is_scalar.true)))
    (c.scalar_by.ensures.gives later begins)

pub returns-then-not-is_string_for-clause-gives : goal.returns-then-not-is_string_for-clause-gives
returns-then-not-is_string_for-clause-gives c = λ later begins.
    let type = type-later c.args.known.now.types.shapes later c.args.kind begins c.requires.kind in
    refused {A = Initial} (initial_over later) (source_of c.args.typer.now) (known_over later c.args.known.now) _ 8 c.args.here c.broken.result
    (by-string (setting_of c.args.typer.now) (known_over later c.args.known.now) c.args.fixed (type_over later c.args.kind) c.args.here (syntax.expr c.args.expr.now) (view_over later c.args.tree)
    (ap is_scalar type ∙ sym c.is_scalar.ensures ∙ c.if-is_scalar.false) false
    (ap (is_string_for (setting_of c.args.typer.now) (syntax.expr c.args.expr.now)) type ∙ sym c.is_string_for.ensures ∙ c.if-not-is_string_for.true))
    c.broken.ensures

pub returns-clause-gives : goal.returns-clause-gives
returns-clause-gives c = λ later begins.
    let type = type-later c.args.known.now.types.shapes later c.args.kind begins c.requires.kind in
    by-string (setting_of c.args.typer.now) (known_over later c.args.known.now) c.args.fixed (type_over later c.args.kind) c.args.here (syntax.expr c.args.expr.now) (view_over later c.args.tree)
    (ap is_scalar type ∙ sym c.is_scalar.ensures ∙ c.if-is_scalar.false) true
    (ap (is_string_for (setting_of c.args.typer.now) (syntax.expr c.args.expr.now)) type ∙ sym c.is_string_for.ensures ∙ c.if-not-is_string_for.false)
    ∙ ap (given (known_over later c.args.known.now)) (sym (c.in_ok-initial.ensures.view later))

pub returns-clause-numbered : goal.returns-clause-numbered
returns-clause-numbered c = c.in_ok-initial.ensures.known (length c.args.known.now.types.shapes) ∙ c.requires.tree
