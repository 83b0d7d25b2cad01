-- The operand may be counted.
use Rattle.std.specs.Prelude.{length, [], ◌∷◌}
use Rattle.std.proofs.Common.{ap, sym, ◌∙◌}
use Rattle.dm_type.specs.CTypes.{bare}
use Rattle.dm_tree.specs.declared.tree.Core.{Core}
use Rattle.dm_tree.specs.Trees as label
use Rattle.dm_tree.specs.TypeNumbers.{are_known}
use Rattle.dm_typing.specs.Conversions.{made}
use Rattle.dm_typing.specs.Known.{given}
use Rattle.dm_typing.specs.Operators.{row_at}
use Rattle.dm_typing.specs.Rules.{may_be_counted}
use Rattle.dm_typing.specs.Typing.{is_plus_plus}
use Rattle.dm_typing.specs.Views.{view_over, known_over, source_of, type_over}
use Rattle.dm_typing.proofs.GivesLemmas.{obeyed, disobeyed, refused}
use Rattle.dm_typing.proofs.LaterLemmas.{type-later}
use Rattle.dm_typing.proofs.ValueLemmas.{kind-later, node-known}
use Rattle.dm_eunary.proofs.counting.typed_count.Goals as goal

pub returns-then-not-may-clause-gives : goal.returns-then-not-may-clause-gives
returns-then-not-may-clause-gives c = λ later begins.
    refused {A = Core} (view_over later) (source_of c.args.typer.now) (known_over later c.args.known.now) _ 13 c.args.at.inner.first c.broken.result
    (disobeyed (may_be_counted (known_over later c.args.known.now) (view_over later c.args.operand)) 13 c.args.at.inner.first _
    (sym (c.in_ok-may.ensures later begins) ∙ c.if-not-may.true))
    c.broken.ensures

pub returns-clause-gives : goal.returns-clause-gives
returns-clause-gives c = λ later begins.
    let known = known_over later c.args.known.now in
    let tree = view_over later c.args.operand in
    let source = source_of c.args.typer.now in
    let shapes = c.args.known.now.types.shapes in
    obeyed (may_be_counted known tree) 13 c.args.at.inner.first _ (sym (c.in_ok-may.ensures later begins) ∙ c.if-not-may.false)
    ∙ ap (given known)
    (sym (c.in_ok-made.ensures.view (record { shapes = later; structs = [] })
    ∙ ap (λ plus. made source c.args.at (label.count plus c.args.before) (type_over later c.bare-kind.result) (tree ∷ [])) c.is_plus_plus.ensures
    ∙ ap (λ type. made source c.args.at (label.count (is_plus_plus (row_at source c.args.operator)) c.args.before) type (tree ∷ []))
    (type-later shapes later c.bare-kind.result begins c.bare-kind.ensures.0 ∙ (c.bare-kind.ensures.1 ∙ ap bare (sym (kind-later shapes later c.args.operand begins c.requires))))))

pub returns-clause-numbered : goal.returns-clause-numbered
returns-clause-numbered c =
    let n = length c.args.known.now.types.shapes in
    node-known n c.bare-kind.result c.in_ok-made.made (are_known n c.args.operand) (c.in_ok-made.ensures.known n) c.bare-kind.ensures.0 c.requires
