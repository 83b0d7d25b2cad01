-- How the operands come together, or the rule of the operator.
use Rattle.std.specs.Prelude.{option_map, IfSome}
use Rattle.std.proofs.Common.{ap, sym, ◌∙◌, subst}
use Rattle.dm_tree.specs.declared.tree.Core.{Core}
use Rattle.dm_typing.specs.Known.{broken}
use Rattle.dm_typing.specs.Rules.{operated, rule_of}
use Rattle.dm_typing.specs.Views.{view_over, known_over, source_of}
use Rattle.dm_ebinary.specs.Pairs.{pair_by, IsWay}
use Rattle.dm_typing.proofs.GivesLemmas.{found-it, found-none, refused, given-so, grown}
use Rattle.dm_typing.proofs.LaterLemmas.{known-later}
use Rattle.dm_ebinary.proofs.operations.typed_operator.Goals as goal

pub joined-requires-clause-left : goal.joined-requires-clause-left
joined-requires-clause-left c = known-later c.args.known.now.types.shapes c.operated.new.known.types.shapes c.args.a c.operated.ensures.grows.shapes c.requires.left

pub joined-requires-clause-right : goal.joined-requires-clause-right
joined-requires-clause-right c = known-later c.args.known.now.types.shapes c.operated.new.known.types.shapes c.args.b c.operated.ensures.grows.shapes c.requires.right

pub joined-requires-clause-way : goal.joined-requires-clause-way
joined-requires-clause-way c = subst (λ found. IfSome found (IsWay c.operated.new.known.types)) c.in-Some.is c.in_ok-found.ensures.numbered

pub returns-in-None-clause-gives : goal.returns-in-None-clause-gives
returns-in-None-clause-gives c = λ later begins.
    let a = view_over later c.args.a in
    let b = view_over later c.args.b in
    refused {A = Core} (view_over later) (source_of c.args.typer.now) (known_over later c.operated.new.known) _ c.rule_of.result c.args.at.inner.first c.broken.result
    (found-none (operated (known_over later c.args.known.now) c.args.op a b) (rule_of c.args.op) c.args.at.inner.first _
    (sym (ap (option_map (pair_by later a b)) (sym c.in-None.is) ∙ c.in_ok-found.ensures.way later begins))
    ∙ ap (λ rule. broken rule c.args.at.inner.first) (sym c.rule_of.ensures))
    c.broken.ensures

pub returns-in_ok-made-in-Some-clause-gives : goal.returns-in_ok-made-in-Some-clause-gives
returns-in_ok-made-in-Some-clause-gives c = λ later begins.
    let a = view_over later c.args.a in
    let b = view_over later c.args.b in
    found-it (operated (known_over later c.args.known.now) c.args.op a b) (pair_by later a b c.in-Some.way) (rule_of c.args.op) c.args.at.inner.first _
    (sym (ap (option_map (pair_by later a b)) (sym c.in-Some.is) ∙ c.in_ok-found.ensures.way later begins))
    ∙ given-so (known_over later c.args.known.now) (known_over later c.operated.new.known) _ _ (grown later c.args.known.now c.operated.new.known c.operated.ensures.grows)
    (sym (c.in_ok-made-in-Some.ensures.view later begins))
