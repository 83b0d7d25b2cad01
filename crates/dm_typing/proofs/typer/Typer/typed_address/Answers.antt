-- An lvalue has an address.
use Rattle.std.specs.Prelude.{length, [], ◌∷◌}
use Rattle.std.proofs.Common.{ap, sym, ◌∙◌}
use Rattle.dm_type.specs.CTypes.{pointer}
use Rattle.dm_tree.specs.Scenes.{is_lvalue}
use Rattle.dm_tree.specs.declared.tree.Core.{Core}
use Rattle.dm_tree.specs.Trees as label
use Rattle.dm_tree.specs.TypeNumbers.{are_known}
use Rattle.dm_typing.specs.Conversions.{made}
use Rattle.dm_typing.specs.Views.{view_over, known_over, source_of, type_over}
use Rattle.dm_typing.proofs.GivesLemmas.{obeyed, disobeyed, refused, given-so, grown}
use Rattle.dm_typing.proofs.LaterLemmas.{known-later}
use Rattle.dm_typing.proofs.ValueLemmas.{kind-view, node-known}
use Rattle.dm_typing.proofs.typer.Typer.typed_address.Goals as goal

pub returns-then-not-is_lvalue-clause-gives : goal.returns-then-not-is_lvalue-clause-gives
returns-then-not-is_lvalue-clause-gives c = λ later begins.
    refused {A = Core} (view_over later) (source_of c.args.self.now) (known_over later c.args.known.now) _ 14 c.args.at.inner.first c.broken.result
    (disobeyed (is_lvalue (view_over later c.args.operand)) 14 c.args.at.inner.first _ (sym (c.is_lvalue.ensures (record { shapes = later; structs = [] })) ∙ c.if-not-is_lvalue.true))
    c.broken.ensures

pub returns-clause-gives : goal.returns-clause-gives
returns-clause-gives c = λ later begins.
    let tree = view_over later c.args.operand in
    obeyed (is_lvalue tree) 14 c.args.at.inner.first _ (sym (c.is_lvalue.ensures (record { shapes = later; structs = [] })) ∙ c.if-not-is_lvalue.false)
    ∙ given-so (known_over later c.args.known.now) (known_over later c.intern.new.self) _ _ (grown later c.args.known.now c.intern.new.self c.intern.ensures.grows)
    (sym (c.in_ok-made.ensures.view (record { shapes = later; structs = [] })
    ∙ ap (λ type. made (source_of c.args.self.now) c.args.at label.address type (tree ∷ []))
    (c.in_ok-kind.ensures.number.1 later begins ∙ ap pointer (sym (kind-view (record { shapes = later; structs = [] }) c.args.operand)))))

pub returns-clause-numbered : goal.returns-clause-numbered
returns-clause-numbered c =
    let n = length c.intern.new.self.types.shapes in
    node-known n c.in_ok-kind.kind c.in_ok-made.made (are_known n c.args.operand) (c.in_ok-made.ensures.known n) c.in_ok-kind.ensures.number.0
    (known-later c.args.known.now.types.shapes c.intern.new.self.types.shapes c.args.operand c.intern.ensures.grows.shapes c.requires)
