-- Arms that go together, behind a scalar.
use Rattle.std.specs.Prelude.{option_map, IfSome}
use Rattle.std.proofs.Common.{ap, sym, ◌∙◌, subst}
use Rattle.dm_tree.specs.declared.tree.Core.{Core}
use Rattle.dm_tree.specs.Scenes.{is_scalar}
use Rattle.dm_tree.specs.Trees.{kind_of}
use Rattle.dm_typing.specs.Rules.{arms}
use Rattle.dm_typing.specs.Views.{view_over, known_over, source_of}
use Rattle.dm_ebinary.specs.Arms.{arms_behind}
use Rattle.dm_ebinary.specs.Pairs.{pair_by, IsWay}
use Rattle.dm_typing.proofs.GivesLemmas.{found-it, found-none, refused, given-so, grown}
use Rattle.dm_typing.proofs.LaterLemmas.{known-later}
use Rattle.dm_ebinary.proofs.ChoiceStepLemmas.{tested-first}
use Rattle.dm_ebinary.proofs.choices.typed_choice.Goals as goal

pub chosen-requires-clause-condition : goal.chosen-requires-clause-condition
chosen-requires-clause-condition c = known-later c.args.known.now.types.shapes c.arms_behind.new.known.types.shapes c.args.condition c.arms_behind.ensures.grows.shapes c.requires.condition

pub chosen-requires-clause-left : goal.chosen-requires-clause-left
chosen-requires-clause-left c = known-later c.args.known.now.types.shapes c.arms_behind.new.known.types.shapes c.args.a c.arms_behind.ensures.grows.shapes c.requires.left

pub chosen-requires-clause-right : goal.chosen-requires-clause-right
chosen-requires-clause-right c = known-later c.args.known.now.types.shapes c.arms_behind.new.known.types.shapes c.args.b c.arms_behind.ensures.grows.shapes c.requires.right

pub chosen-requires-clause-way : goal.chosen-requires-clause-way
chosen-requires-clause-way c = subst (λ found. IfSome found (IsWay c.arms_behind.new.known.types)) c.in-Some.is c.in_ok-found.ensures.numbered

pub returns-in-None-clause-gives : goal.returns-in-None-clause-gives
returns-in-None-clause-gives c = λ later begins.
    let known = known_over later c.args.known.now in
    let condition = view_over later c.args.condition in
    let a = view_over later c.args.a in
    let b = view_over later c.args.b in
    refused {A = Core} (view_over later) (source_of c.args.typer.now) (known_over later c.arms_behind.new.known) _ 27 c.args.at.inner.first c.broken.result
    (tested-first (is_scalar (kind_of condition)) (arms known a b) 27 c.args.at.inner.first _
    ∙ found-none (arms_behind known condition a b) 27 c.args.at.inner.first _
    (sym (ap (option_map (pair_by later a b)) (sym c.in-None.is) ∙ c.in_ok-found.ensures.way later begins)))
    c.broken.ensures

pub returns-in_ok-made-in-Some-clause-gives : goal.returns-in_ok-made-in-Some-clause-gives
returns-in_ok-made-in-Some-clause-gives c = λ later begins.
    let known = known_over later c.args.known.now in
    let condition = view_over later c.args.condition in
    let a = view_over later c.args.a in
    let b = view_over later c.args.b in
    tested-first (is_scalar (kind_of condition)) (arms known a b) 27 c.args.at.inner.first _
    ∙ found-it (arms_behind known condition a b) (pair_by later a b c.in-Some.way) 27 c.args.at.inner.first _
    (sym (ap (option_map (pair_by later a b)) (sym c.in-Some.is) ∙ c.in_ok-found.ensures.way later begins))
    ∙ given-so known (known_over later c.arms_behind.new.known) _ _ (grown later c.args.known.now c.arms_behind.new.known c.arms_behind.ensures.grows)
    (sym (c.in_ok-made-in-Some.ensures.view later begins))
