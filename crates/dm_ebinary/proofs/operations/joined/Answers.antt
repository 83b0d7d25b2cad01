-- Each operand after its conversion.
use Rattle.std.specs.Prelude.{length, [], ◌∷◌, ◌&&◌}
use Rattle.std.proofs.Common.{ap₂, ◌∙◌}
use Rattle.std.proofs.lemmas.Bool.{and_from}
use Rattle.dm_tree.specs.Trees as label
use Rattle.dm_tree.specs.TypeNumbers.{are_known}
use Rattle.dm_typing.specs.Conversions.{made}
use Rattle.dm_typing.specs.Views.{source_of, type_over}
use Rattle.dm_typing.proofs.ValueLemmas.{node-known}
use Rattle.dm_ebinary.proofs.operations.joined.Goals as goal

pub returns-clause-view : goal.returns-clause-view
returns-clause-view c = λ later begins.
    c.in_ok-made.ensures.view (record { shapes = later; structs = [] })
    ∙ ap₂ (λ left right. made (source_of c.args.typer.now) c.args.at (label.binary c.args.op) (type_over later c.args.way.kind) (left ∷ right ∷ []))
    (c.in_ok-left.ensures.value later begins) (c.in_ok-right.ensures.value later begins)

pub returns-clause-numbered : goal.returns-clause-numbered
returns-clause-numbered c =
    let n = length c.args.known.now.types.shapes in
    let left = c.in_ok-left.left in
    let right = c.in_ok-right.right in
    node-known n c.args.way.kind c.in_ok-made.made (are_known n left && are_known n right) (c.in_ok-made.ensures.known n) c.requires.way.2
    (and_from (are_known n left) (are_known n right) c.in_ok-left.ensures.numbered c.in_ok-right.ensures.numbered)
