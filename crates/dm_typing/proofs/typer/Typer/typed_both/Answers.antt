-- Two scalars.
use Rattle.std.specs.Prelude.{length, [], ◌∷◌, ◌&&◌}
use Rattle.std.proofs.Common.{ap, sym, ◌∙◌}
use Rattle.std.proofs.lemmas.Bool.{and_from}
use Rattle.dm_tree.specs.Scenes.{is_scalar}
use Rattle.dm_tree.specs.Trees.{kind_of}
use Rattle.dm_tree.specs.declared.tree.Core.{Core}
use Rattle.dm_tree.specs.Trees as label
use Rattle.dm_tree.specs.TypeNumbers.{are_known}
use Rattle.dm_typing.specs.Conversions.{made}
use Rattle.dm_typing.specs.Views.{view_over, known_over, source_of}
use Rattle.dm_typing.proofs.GivesLemmas.{obeyed, disobeyed, refused, given-so, grown, both-later}
use Rattle.dm_typing.proofs.LaterLemmas.{begins-on, known-later}
use Rattle.dm_typing.proofs.ValueLemmas.{node-known}
use Rattle.dm_typing.proofs.typer.Typer.typed_both.Goals as goal

pub returns-then-not-are_scalars-clause-gives : goal.returns-then-not-are_scalars-clause-gives
returns-then-not-are_scalars-clause-gives c = λ later begins.
    refused {A = Core} (view_over later) (source_of c.args.self.now) (known_over later c.args.known.now) _ 26 c.args.at.inner.first c.broken.result
    (disobeyed (is_scalar (kind_of (view_over later c.args.a)) && is_scalar (kind_of (view_over later c.args.b))) 26 c.args.at.inner.first _
    (both-later is_scalar c.args.known.now.types.shapes later c.args.a c.args.b begins c.requires.left c.requires.right
    ∙ (sym c.are_scalars.ensures ∙ c.if-not-are_scalars.true)))
    c.broken.ensures

pub returns-clause-gives : goal.returns-clause-gives
returns-clause-gives c = λ later begins.
    let a = view_over later c.args.a in
    let b = view_over later c.args.b in
    obeyed (is_scalar (kind_of a) && is_scalar (kind_of b)) 26 c.args.at.inner.first _
    (both-later is_scalar c.args.known.now.types.shapes later c.args.a c.args.b
    (begins-on c.args.known.now.types.shapes c.intern.new.self.types.shapes later c.intern.ensures.grows.shapes begins) c.requires.left c.requires.right
    ∙ (sym c.are_scalars.ensures ∙ c.if-not-are_scalars.false))
    ∙ given-so (known_over later c.args.known.now) (known_over later c.intern.new.self) _ _ (grown later c.args.known.now c.intern.new.self c.intern.ensures.grows)
    (sym (c.in_ok-made.ensures.view (record { shapes = later; structs = [] })
    ∙ ap (λ type. made (source_of c.args.self.now) c.args.at label.both type (a ∷ b ∷ [])) (c.in_ok-kind.ensures.number.1 later begins)))

pub returns-clause-numbered : goal.returns-clause-numbered
returns-clause-numbered c =
    let n = length c.intern.new.self.types.shapes in
    node-known n c.in_ok-kind.kind c.in_ok-made.made (are_known n c.args.a && are_known n c.args.b) (c.in_ok-made.ensures.known n) c.in_ok-kind.ensures.number.0
    (and_from (are_known n c.args.a) (are_known n c.args.b)
    (known-later c.args.known.now.types.shapes c.intern.new.self.types.shapes c.args.a c.intern.ensures.grows.shapes c.requires.left)
    (known-later c.args.known.now.types.shapes c.intern.new.self.types.shapes c.args.b c.intern.ensures.grows.shapes c.requires.right))
