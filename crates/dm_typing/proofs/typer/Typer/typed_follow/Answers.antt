-- A pointer to a complete object type is followed.
use Rattle.std.specs.Prelude.{length, [], ◌∷◌}
use Rattle.std.proofs.Common.{ap, sym, ◌∙◌}
use Rattle.dm_tree.specs.Trees.{kind_of}
use Rattle.dm_tree.specs.declared.tree.Core.{Core}
use Rattle.dm_tree.specs.Trees as label
use Rattle.dm_tree.specs.TypeNumbers.{are_known}
use Rattle.dm_typing.specs.Conversions.{made, complete_target}
use Rattle.dm_typing.specs.Views.{view_over, known_over, source_of, type_over}
use Rattle.dm_typing.proofs.GivesLemmas.{found-it, found-none, refused, given-so, target-later, target-none}
use Rattle.dm_typing.proofs.ValueLemmas.{node-known}
use Rattle.dm_typing.proofs.typer.Typer.typed_follow.Goals as goal

pub returns-in-None-clause-gives : goal.returns-in-None-clause-gives
returns-in-None-clause-gives c = λ later begins.
    refused {A = Core} (view_over later) (source_of c.args.self.now) (known_over later c.args.known.now) _ 15 c.args.at.inner.first c.broken.result
    (found-none (complete_target (known_over later c.args.known.now) (kind_of (view_over later c.args.operand))) 15 c.args.at.inner.first _
    (target-none c.args.known.now later c.args.operand begins c.requires c.in-None.ensures.target))
    c.broken.ensures

pub returns-in_ok-made-in-Some-clause-gives : goal.returns-in_ok-made-in-Some-clause-gives
returns-in_ok-made-in-Some-clause-gives c = λ later begins.
    let tree = view_over later c.args.operand in
    found-it (complete_target (known_over later c.args.known.now) (kind_of tree)) (type_over later c.in-Some.to) 15 c.args.at.inner.first _
    (target-later c.args.known.now later c.args.operand c.in-Some.to begins c.requires c.in-Some.ensures.target c.in-Some.ensures.numbered)
    ∙ ap (λ made. Rattle.dm_typing.specs.Known.given (known_over later c.args.known.now) made) (sym (c.in_ok-made-in-Some.ensures.view (record { shapes = later; structs = [] })))

pub returns-in_ok-made-in-Some-clause-numbered : goal.returns-in_ok-made-in-Some-clause-numbered
returns-in_ok-made-in-Some-clause-numbered c =
    let n = length c.args.known.now.types.shapes in
    node-known n c.in-Some.to c.in_ok-made-in-Some.made (are_known n c.args.operand) (c.in_ok-made-in-Some.ensures.known n) c.in-Some.ensures.numbered c.requires
