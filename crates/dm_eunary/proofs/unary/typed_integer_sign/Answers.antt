-- The operand is an integer.
use Rattle.std.specs.Prelude.{length, [], ◌∷◌}
use Rattle.std.proofs.Common.{ap, sym, ◌∙◌}
use Rattle.dm_int.specs.Kinds.{promote}
use Rattle.dm_type.specs.CTypes.{integer}
use Rattle.dm_tree.specs.declared.tree.Core.{Core}
use Rattle.dm_tree.specs.Constants.{integer_kind}
use Rattle.dm_tree.specs.Trees as label
use Rattle.dm_tree.specs.TypeNumbers.{are_known}
use Rattle.dm_typing.specs.Conversions.{made}
use Rattle.dm_typing.specs.Views.{view_over, known_over, source_of, setting_of}
use Rattle.dm_typing.proofs.GivesLemmas.{refused, given-so, grown, grows-on}
use Rattle.dm_typing.proofs.LaterLemmas.{begins-on, known-later}
use Rattle.dm_eunary.proofs.UnaryLemmas.{sign-of, sign-other}
use Rattle.dm_typing.proofs.ValueLemmas.{kind-later, node-known}
use Rattle.dm_eunary.proofs.unary.typed_integer_sign.Goals as goal

pub returns-in-None-clause-gives : goal.returns-in-None-clause-gives
returns-in-None-clause-gives c = λ later begins.
    refused {A = Core} (view_over later) (source_of c.args.typer.now) (known_over later c.args.known.now) _ 16 c.args.at.inner.first c.broken.result
    (sign-other (setting_of c.args.typer.now) (known_over later c.args.known.now) c.args.at (view_over later c.args.operand) c.args.sign c.requires.sign
    (ap integer_kind (kind-later c.args.known.now.types.shapes later c.args.operand begins c.requires.operand) ∙ (sym c.integer_kind.ensures ∙ c.in-None.is)))
    c.broken.ensures

pub returns-in_ok-made-in-Some-clause-gives : goal.returns-in_ok-made-in-Some-clause-gives
returns-in_ok-made-in-Some-clause-gives c = λ later begins.
    let first = c.args.known.now in
    let second = c.promoted.new.known in
    let third = c.intern.new.self in
    let source = source_of c.args.typer.now in
    let tree = view_over later c.args.operand in
    let sign = c.args.sign in
    let then_on = begins-on second.types.shapes third.types.shapes later c.intern.ensures.grows.shapes begins in
    sign-of (setting_of c.args.typer.now) (known_over later first) c.args.at tree sign c.in-Some.kind c.requires.sign
    (ap integer_kind (kind-later first.types.shapes later c.args.operand
    (begins-on first.types.shapes second.types.shapes later c.promoted.ensures.grows.shapes then_on) c.requires.operand)
    ∙ (sym c.integer_kind.ensures ∙ c.in-Some.is))
    ∙ given-so (known_over later first) (known_over later third) _ _
    (grown later first second c.promoted.ensures.grows ∙ grown later second third c.intern.ensures.grows)
    (sym (c.in_ok-made-in-Some.ensures.view (record { shapes = later; structs = [] })
    ∙ ap (λ type. made source c.args.at (label.unary sign) type (view_over later c.in_ok-operand-in-Some.operand ∷ [])) (c.in_ok-kind-in-Some.ensures.number.1 later begins)
    ∙ ap (λ kind. made source c.args.at (label.unary sign) (integer kind) (view_over later c.in_ok-operand-in-Some.operand ∷ [])) c.promote.ensures
    ∙ ap (λ value. made source c.args.at (label.unary sign) (integer (promote c.in-Some.kind)) (value ∷ [])) (c.in_ok-operand-in-Some.ensures.value later then_on)))

pub returns-in_ok-made-in-Some-clause-numbered : goal.returns-in_ok-made-in-Some-clause-numbered
returns-in_ok-made-in-Some-clause-numbered c =
    let second = c.promoted.new.known in
    let third = c.intern.new.self in
    let n = length third.types.shapes in
    node-known n c.in_ok-kind-in-Some.kind c.in_ok-made-in-Some.made (are_known n c.in_ok-operand-in-Some.operand) (c.in_ok-made-in-Some.ensures.known n) c.in_ok-kind-in-Some.ensures.number.0
    (known-later second.types.shapes third.types.shapes c.in_ok-operand-in-Some.operand c.intern.ensures.grows.shapes c.in_ok-operand-in-Some.ensures.numbered)

pub returns-in_ok-made-in-Some-clause-grows : goal.returns-in_ok-made-in-Some-clause-grows
returns-in_ok-made-in-Some-clause-grows c =
    grows-on c.args.known.now c.promoted.new.known c.intern.new.self c.promoted.ensures.grows c.intern.ensures.grows
