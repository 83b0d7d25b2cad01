-- Types are compared by their numbers, and stay what they are whatever numbers come.
use Rattle.std.specs.Prelude.{refl, true, length, []}
use Rattle.std.proofs.Common.{ap, sym, ◌∙◌}
use Rattle.std.proofs.lemmas.Bool.{and_from}
use Rattle.dm_tree.specs.TypeNumbers.{are_known}
use Rattle.dm_tree.specs.Trees.{convert as conversion}
use Rattle.dm_typing.specs.Conversions.{over}
use Rattle.dm_typing.specs.Views.{type_over, view_over}
use Rattle.dm_typing.proofs.ValueLemmas.{converts, converts-not, same-later, bare-later, node-known}
use Rattle.dm_typing.proofs.typer.Typer.as_type.Goals as goal

pub returns-then-is_same-clause-value : goal.returns-then-is_same-clause-value
returns-then-is_same-clause-value c = λ later begins.
    sym (converts-not (type_over later c.args.kind) (view_over later c.args.core)
    (same-later c.args.known.now.types later c.args.core c.args.kind c.bare-kind.result c.is_same.result begins c.requires.numbered c.requires.kind c.bare-kind.ensures c.is_same.ensures ∙ c.if-is_same.true))

pub returns-clause-value : goal.returns-clause-value
returns-clause-value c = λ later begins.
    c.in_ok-made.ensures.view (record { shapes = later; structs = [] })
    ∙ ap (λ type. over conversion type (view_over later c.args.core)) (bare-later c.args.known.now.types later c.args.kind c.bare-kind.result begins c.requires.kind c.bare-kind.ensures)
    ∙ sym (converts (type_over later c.args.kind) (view_over later c.args.core)
    (same-later c.args.known.now.types later c.args.core c.args.kind c.bare-kind.result c.is_same.result begins c.requires.numbered c.requires.kind c.bare-kind.ensures c.is_same.ensures ∙ c.if-is_same.false))

pub returns-clause-numbered : goal.returns-clause-numbered
returns-clause-numbered c =
    let n = length c.args.known.now.types.shapes in
    node-known n c.bare-kind.result c.in_ok-made.made _ (c.in_ok-made.ensures.known n) c.bare-kind.ensures.0 (and_from (are_known n c.args.core) true c.requires.numbered refl)
