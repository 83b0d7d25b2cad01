-- A pointer and an integer, in either order.
use Rattle.std.specs.Prelude.{Some, option_map}
use Rattle.std.proofs.Common.{ap, sym, ◌∙◌}
use Rattle.dm_typing.specs.Views.{view_over, known_over}
use Rattle.dm_typing.specs.Rules.{pair}
use Rattle.dm_typing.proofs.RuleSteps.{index-later, index-none}
use Rattle.dm_ebinary.proofs.BinaryLemmas.{sum-as-subscript}
use Rattle.dm_ebinary.proofs.operations.added.Goals as goal

pub returns-in-Some-clause-way : goal.returns-in-Some-clause-way
returns-in-Some-clause-way c = λ later begins.
    let a = view_over later c.args.a.now in
    let b = view_over later c.args.b.now in
    ap Some (c.as_they_are.ensures.way later a b)
    ∙ sym (sum-as-subscript (known_over later c.args.known.now) a b
    ∙ ap (option_map (pair a b)) (index-later c.args.known.now later c.args.a.now c.args.b.now c.in-Some.found.0 begins c.requires.left c.requires.right c.in-Some.ensures.pointer c.in-Some.ensures.numbered.0))

pub returns-in-None-clause-way : goal.returns-in-None-clause-way
returns-in-None-clause-way c = λ later begins.
    let a = view_over later c.args.a.now in
    let b = view_over later c.args.b.now in
    sym (sum-as-subscript (known_over later c.args.known.now) a b
    ∙ ap (option_map (pair a b)) (index-none c.args.known.now later c.args.a.now c.args.b.now begins c.requires.left c.requires.right c.in-None.ensures.pointer))
