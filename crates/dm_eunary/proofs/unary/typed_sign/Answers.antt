-- By the sign.
use Rattle.std.specs.Prelude.{Some}
use Rattle.std.proofs.Common.{ap, sym, ◌∙◌}
use Rattle.dm_tree.specs.declared.tree.Core.{Core}
use Rattle.dm_tree.specs.declared.tree.Sign.TheVariants as s
use Rattle.dm_typing.specs.Typing.{typed_sign}
use Rattle.dm_eunary.specs.Unary.{sign_at, typed_by_sign}
use Rattle.dm_typing.specs.Views.{view_over, known_over, source_of, setting_of}
use Rattle.dm_typing.proofs.GivesLemmas.{found-it, found-none, refused, gives-so}
use Rattle.dm_eunary.proofs.unary.typed_sign.Goals as goal

pub returns-in-Some-Not-clause-gives : goal.returns-in-Some-Not-clause-gives
returns-in-Some-Not-clause-gives c = λ later begins.
    let known = known_over later c.args.known.now in
    let setting = setting_of c.args.typer.now in
    let tree = view_over later c.args.operand in
    gives-so {A = Core} (view_over later) (source_of c.args.typer.now) (known_over later c.typed_not.new.known) c.typed_not.result
    (typed_by_sign setting known c.args.at tree s.Not) (typed_sign setting known c.args.at c.args.operator tree)
    (sym (found-it (sign_at (source_of c.args.typer.now) c.args.operator) s.Not 16 c.args.at.inner.first (typed_by_sign setting known c.args.at tree)
    (sym c.sign_at.ensures ∙ (c.in-Some-Not.is ∙ ap Some c.in-Some-Not.field-0-is))))
    (c.typed_not.ensures.gives later begins)

pub returns-in-Some-clause-gives : goal.returns-in-Some-clause-gives
returns-in-Some-clause-gives c = λ later begins.
    let known = known_over later c.args.known.now in
    let setting = setting_of c.args.typer.now in
    let tree = view_over later c.args.operand in
    gives-so {A = Core} (view_over later) (source_of c.args.typer.now) (known_over later c.typed_integer_sign.new.known) c.typed_integer_sign.result
    (typed_by_sign setting known c.args.at tree c.in-Some.sign) (typed_sign setting known c.args.at c.args.operator tree)
    (sym (found-it (sign_at (source_of c.args.typer.now) c.args.operator) c.in-Some.sign 16 c.args.at.inner.first (typed_by_sign setting known c.args.at tree)
    (sym c.sign_at.ensures ∙ c.in-Some.is)))
    (c.typed_integer_sign.ensures.gives later begins)

pub returns-in-None-clause-gives : goal.returns-in-None-clause-gives
returns-in-None-clause-gives c = λ later begins.
    let known = known_over later c.args.known.now in
    let setting = setting_of c.args.typer.now in
    let tree = view_over later c.args.operand in
    refused {A = Core} (view_over later) (source_of c.args.typer.now) known _ 16 c.args.at.inner.first c.broken.result
    (found-none (sign_at (source_of c.args.typer.now) c.args.operator) 16 c.args.at.inner.first (typed_by_sign setting known c.args.at tree)
    (sym c.sign_at.ensures ∙ c.in-None.is))
    c.broken.ensures
