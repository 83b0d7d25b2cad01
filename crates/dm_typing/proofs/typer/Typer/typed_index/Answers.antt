-- A pointer and an integer, in either order.
use Rattle.std.specs.Prelude.{length, [], ◌∷◌, ◌&&◌}
use Rattle.std.proofs.Common.{ap, sym, ◌∙◌}
use Rattle.std.proofs.lemmas.Bool.{and_from}
use Rattle.dm_int.specs.declared.Op.TheVariants.{Add}
use Rattle.dm_tree.specs.declared.tree.Core.{Core}
use Rattle.dm_tree.specs.Trees.{kind_of}
use Rattle.dm_tree.specs.Trees as label
use Rattle.dm_tree.specs.TypeNumbers.{are_known}
use Rattle.dm_typing.specs.Known.{given}
use Rattle.dm_typing.specs.Conversions.{made, complete_target}
use Rattle.dm_typing.specs.Rules.{indexed}
use Rattle.dm_typing.specs.Typing.{index_tree}
use Rattle.dm_typing.specs.Views.{view_over, known_over, source_of, setting_of, type_over}
use Rattle.dm_typing.proofs.GivesLemmas.{found-it, found-none, refused}
use Rattle.dm_typing.proofs.RuleSteps.{index-later, index-none, number-target}
use Rattle.dm_typing.proofs.ValueLemmas.{node-known}
use Rattle.dm_typing.proofs.typer.Typer.typed_index.Goals as goal

pub returns-in-None-clause-gives : goal.returns-in-None-clause-gives
returns-in-None-clause-gives c = λ later begins.
    refused {A = Core} (view_over later) (source_of c.args.self.now) (known_over later c.args.known.now) _ 11 c.args.at.inner.first c.broken.result
    (found-none (indexed (known_over later c.args.known.now) (kind_of (view_over later c.args.a)) (kind_of (view_over later c.args.b))) 11 c.args.at.inner.first _
    (index-none c.args.known.now later c.args.a c.args.b begins c.requires.left c.requires.right c.in-None.ensures.pointer))
    c.broken.ensures

pub returns-in_ok-made-in-Some-clause-gives : goal.returns-in_ok-made-in-Some-clause-gives
returns-in_ok-made-in-Some-clause-gives c = λ later begins.
    let known = known_over later c.args.known.now in
    let a = view_over later c.args.a in
    let b = view_over later c.args.b in
    let source = source_of c.args.self.now in
    found-it (indexed known (kind_of a) (kind_of b)) (type_over later c.in-Some.found.0) 11 c.args.at.inner.first _
    (index-later c.args.known.now later c.args.a c.args.b c.in-Some.found.0 begins c.requires.left c.requires.right c.in-Some.ensures.pointer c.in-Some.ensures.numbered.0)
    ∙ ap (λ found. given known (index_tree (setting_of c.args.self.now) c.args.at a b (type_over later c.in-Some.found.0) found))
    (number-target c.args.known.now later c.in-Some.found.0 c.in-Some.found.1 begins c.in-Some.ensures.numbered.0 c.in-Some.ensures.numbered.1 c.in-Some.ensures.target)
    ∙ ap (λ sum. given known (made source c.args.at label.follow (type_over later c.in-Some.found.1) (sum ∷ []))) (sym (c.in_ok-sum-in-Some.ensures.view (record { shapes = later; structs = [] })))
    ∙ ap (given known) (sym (c.in_ok-made-in-Some.ensures.view (record { shapes = later; structs = [] })))

pub returns-in_ok-made-in-Some-clause-numbered : goal.returns-in_ok-made-in-Some-clause-numbered
returns-in_ok-made-in-Some-clause-numbered c =
    let n = length c.args.known.now.types.shapes in
    node-known n c.in-Some.found.1 c.in_ok-made-in-Some.made (are_known n c.in_ok-sum-in-Some.sum) (c.in_ok-made-in-Some.ensures.known n) c.in-Some.ensures.numbered.1
    (node-known n c.in-Some.found.0 c.in_ok-sum-in-Some.sum (are_known n c.args.a && are_known n c.args.b) (c.in_ok-sum-in-Some.ensures.known n) c.in-Some.ensures.numbered.0
    (and_from (are_known n c.args.a) (are_known n c.args.b) c.requires.left c.requires.right))
