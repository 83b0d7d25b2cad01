-- By the kinds of the operands.
use Rattle.std.specs.Prelude.{Some, None}
use Rattle.std.proofs.Common.{ap, ◌∙◌}
use Rattle.dm_typing.specs.Views.{view_over}
use Rattle.dm_typing.proofs.LaterLemmas.{begins-on}
use Rattle.dm_ebinary.proofs.BinaryLemmas.{by-kinds-later}
use Rattle.dm_ebinary.proofs.operations.operated.Goals as goal

pub returns-in_ok-way-in-Some-clause-way : goal.returns-in_ok-way-in-Some-clause-way
returns-in_ok-way-in-Some-clause-way c = λ later begins.
    ap Some (c.in_ok-way-in-Some.ensures.way later begins (view_over later c.args.a.now) (view_over later c.args.b.now))
    ∙ by-kinds-later c.args.known.now later c.args.op c.args.a.now c.args.b.now (Some c.in-Some.kinds)
    (begins-on c.args.known.now.types.shapes c.of_integers.new.known.types.shapes later c.of_integers.ensures.grows.shapes begins) c.requires.left c.requires.right c.in-Some.ensures

pub returns-in_ok-found-in-None-clause-way : goal.returns-in_ok-found-in-None-clause-way
returns-in_ok-found-in-None-clause-way c = λ later begins.
    c.in_ok-found-in-None.ensures.way later begins
    ∙ by-kinds-later c.args.known.now later c.args.op c.args.a.now c.args.b.now None
    (begins-on c.args.known.now.types.shapes c.of_others.new.known.types.shapes later c.of_others.ensures.grows.shapes begins) c.requires.left c.requires.right c.in-None.ensures
