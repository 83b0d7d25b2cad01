-- Void twice, two structs, or pointers.
use Rattle.std.specs.Prelude.{Some, None}
use Rattle.std.proofs.Common.{◌∙◌}
use Rattle.dm_typing.proofs.LaterLemmas.{begins-on}
use Rattle.dm_ebinary.proofs.ChoiceStepLemmas.{plainness-later, type-if}
use Rattle.dm_ebinary.proofs.choices.arms_of_types.Goals as goal

pub returns-in-Some-clause-kind : goal.returns-in-Some-clause-kind
returns-in-Some-clause-kind c = λ later begins.
    type-if later c.args.a.now c.in-Some.same c.type_if.result c.type_if.ensures
    ∙ plainness-later c.args.known.now later c.args.a.now c.args.b.now begins c.requires.left c.requires.right (Some c.in-Some.same) c.in-Some.ensures

pub returns-in_ok-found-in-None-clause-kind : goal.returns-in_ok-found-in-None-clause-kind
returns-in_ok-found-in-None-clause-kind c = λ later begins.
    c.in_ok-found-in-None.ensures.kind later begins
    ∙ plainness-later c.args.known.now later c.args.a.now c.args.b.now
    (begins-on c.args.known.now.types.shapes c.arms_by_targets.new.known.types.shapes later c.arms_by_targets.ensures.grows.shapes begins) c.requires.left c.requires.right None c.in-None.ensures
