-- The right operand after its conversion.
use Rattle.std.specs.Prelude.{length, [], ◌∷◌, ◌&&◌, nat_lt}
use Rattle.std.proofs.Common.{ap, ap₂, sym, ◌∙◌}
use Rattle.std.proofs.lemmas.Bool.{and_from, lt-ltb}
use Rattle.dm_type.specs.CTypes.{bare}
use Rattle.dm_tree.specs.declared.tree.Core.{out-Core}
use Rattle.dm_tree.specs.Trees as label
use Rattle.dm_tree.specs.TypeNumbers.{are_known}
use Rattle.dm_typing.specs.Conversions.{made}
use Rattle.dm_typing.specs.Views.{view_over, type_over, source_of}
use Rattle.dm_typing.proofs.ValueLemmas.{kind-view, kind-known, node-known, bare-later}
use Rattle.dm_ebinary.proofs.assignments.changed.Goals as goal

pub returns-clause-view : goal.returns-clause-view
returns-clause-view c = λ later begins.
    let types = c.args.known.now.types in
    c.in_ok-made.ensures.view (record { shapes = later; structs = [] })
    ∙ ap₂ (λ type it. made (source_of c.args.typer.now) c.args.at (label.update c.args.op (type_over later c.args.right.works)) type (view_over later c.args.object ∷ it ∷ []))
    (bare-later types later (out-Core c.args.object).kind c.bare-kind.result begins (kind-known (length types.shapes) c.args.object c.requires.object) c.bare-kind.ensures
    ∙ ap bare (sym (kind-view (record { shapes = later; structs = [] }) c.args.object)))
    (c.in_ok-value.ensures.value later begins)

pub returns-clause-numbered : goal.returns-clause-numbered
returns-clause-numbered c =
    let n = length c.args.known.now.types.shapes in
    let object = c.args.object in
    let value = c.in_ok-value.value in
    let works = c.args.right.works in
    node-known n c.bare-kind.result c.in_ok-made.made (nat_lt works n && (are_known n object && are_known n value)) (c.in_ok-made.ensures.known n) c.bare-kind.ensures.0
    (and_from (nat_lt works n) (are_known n object && are_known n value) (lt-ltb works n c.requires.operand.0)
    (and_from (are_known n object) (are_known n value) c.requires.object c.in_ok-value.ensures.numbered))
