-- By the kinds of the arms.
use Rattle.std.specs.Prelude.{Some, None}
use Rattle.std.proofs.Common.{ap, ◌∙◌}
use Rattle.dm_type.specs.CTypes.{integer}
use Rattle.dm_typing.proofs.LaterLemmas.{begins-on}
use Rattle.dm_ebinary.proofs.ChoiceStepLemmas.{sides-later}
use Rattle.dm_ebinary.proofs.choices.arms_kind.Goals as goal

pub returns-in_ok-kind-in-Some-clause-kind : goal.returns-in_ok-kind-in-Some-clause-kind
returns-in_ok-kind-in-Some-clause-kind c = λ later begins.
    ap Some (c.in_ok-kind-in-Some.ensures.number.1 later begins ∙ ap integer c.common.ensures)
    ∙ sides-later c.args.known.now later c.args.a.now c.args.b.now (begins-on c.args.known.now.types.shapes c.intern.new.self.types.shapes later c.intern.ensures.grows.shapes begins)
    c.requires.left c.requires.right (Some c.in-Some.kinds) c.in-Some.ensures

pub returns-in_ok-found-in-None-clause-kind : goal.returns-in_ok-found-in-None-clause-kind
returns-in_ok-found-in-None-clause-kind c = λ later begins.
    c.in_ok-found-in-None.ensures.kind later begins
    ∙ sides-later c.args.known.now later c.args.a.now c.args.b.now (begins-on c.args.known.now.types.shapes c.arms_of_types.new.known.types.shapes later c.arms_of_types.ensures.grows.shapes begins)
    c.requires.left c.requires.right None c.in-None.ensures
