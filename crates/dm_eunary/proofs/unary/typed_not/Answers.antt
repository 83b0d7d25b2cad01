-- The operand is a scalar.
use Rattle.std.specs.Prelude.{length, [], ◌∷◌}
use Rattle.std.proofs.Common.{ap, sym, ◌∙◌}
use Rattle.dm_tree.specs.declared.tree.Core.{Core}
use Rattle.dm_tree.specs.declared.tree.Sign.TheVariants as s
use Rattle.dm_tree.specs.Scenes.{is_scalar}
use Rattle.dm_tree.specs.Trees as label
use Rattle.dm_tree.specs.TypeNumbers.{are_known}
use Rattle.dm_typing.specs.Conversions.{made}
use Rattle.dm_typing.specs.Views.{view_over, known_over, source_of, setting_of}
use Rattle.dm_typing.proofs.GivesLemmas.{refused, given-so, grown}
use Rattle.dm_typing.proofs.LaterLemmas.{begins-on, known-later}
use Rattle.dm_eunary.proofs.UnaryLemmas.{not-of, not-scalar}
use Rattle.dm_typing.proofs.ValueLemmas.{kind-later, node-known}
use Rattle.dm_eunary.proofs.unary.typed_not.Goals as goal

pub returns-then-not-is_scalar-clause-gives : goal.returns-then-not-is_scalar-clause-gives
returns-then-not-is_scalar-clause-gives c = λ later begins.
    refused {A = Core} (view_over later) (source_of c.args.typer.now) (known_over later c.args.known.now) _ 16 c.args.at.inner.first c.broken.result
    (not-scalar (setting_of c.args.typer.now) (known_over later c.args.known.now) c.args.at (view_over later c.args.operand)
    (ap is_scalar (kind-later c.args.known.now.types.shapes later c.args.operand begins c.requires) ∙ (sym c.is_scalar.ensures ∙ c.if-not-is_scalar.true)))
    c.broken.ensures

pub returns-clause-gives : goal.returns-clause-gives
returns-clause-gives c = λ later begins.
    let tree = view_over later c.args.operand in
    not-of (setting_of c.args.typer.now) (known_over later c.args.known.now) c.args.at tree
    (ap is_scalar (kind-later c.args.known.now.types.shapes later c.args.operand
    (begins-on c.args.known.now.types.shapes c.intern.new.self.types.shapes later c.intern.ensures.grows.shapes begins) c.requires)
    ∙ (sym c.is_scalar.ensures ∙ c.if-not-is_scalar.false))
    ∙ given-so (known_over later c.args.known.now) (known_over later c.intern.new.self) _ _ (grown later c.args.known.now c.intern.new.self c.intern.ensures.grows)
    (sym (c.in_ok-made.ensures.view (record { shapes = later; structs = [] })
    ∙ ap (λ type. made (source_of c.args.typer.now) c.args.at (label.unary s.Not) type (tree ∷ [])) (c.in_ok-kind.ensures.number.1 later begins)))

pub returns-clause-numbered : goal.returns-clause-numbered
returns-clause-numbered c =
    let n = length c.intern.new.self.types.shapes in
    node-known n c.in_ok-kind.kind c.in_ok-made.made (are_known n c.args.operand) (c.in_ok-made.ensures.known n) c.in_ok-kind.ensures.number.0
    (known-later c.args.known.now.types.shapes c.intern.new.self.types.shapes c.args.operand c.intern.ensures.grows.shapes c.requires)
