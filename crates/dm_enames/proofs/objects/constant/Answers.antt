-- A constant by its token.
use Rattle.std.specs.Prelude.{length, [], true, refl}
use Rattle.std.proofs.Common.{rules, ap, sym, ◌∙◌, ◌≡◌, to_z, of_z}
use mir.Syntax.{w128}
use Rattle.dm_tree.specs.Trees as label
use Rattle.dm_typing.specs.Conversions.{made}
use Rattle.dm_typing.specs.Views.{source_of, type_over}
use Rattle.dm_typing.proofs.ValueLemmas.{node-known}
use Rattle.dm_enames.proofs.objects.constant.Goals as goal

pub returns-clause-value : goal.returns-clause-value
returns-clause-value c = λ later begins.
    let value = c.value_at-value.result.0 in
    let same : to_z w128 (of_z w128 value) ≡ value = search rules in
    c.number.ensures.view (record { shapes = later; structs = [] })
    ∙ ap (λ z. made (source_of c.args.typer.now) c.args.at (label.number z) (type_over later c.in_ok-kind.kind) []) same
    ∙ ap (λ type. made (source_of c.args.typer.now) c.args.at (label.number value) type []) (c.in_ok-kind.ensures.number.1 later begins)
    ∙ sym (c.value_at-value.ensures c.args.at)

pub returns-clause-numbered : goal.returns-clause-numbered
returns-clause-numbered c =
    let n = length c.intern.new.self.types.shapes in
    node-known n c.in_ok-kind.kind c.number.result true (c.number.ensures.known n) c.in_ok-kind.ensures.number.0 refl
