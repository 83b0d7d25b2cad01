-- By the kinds of the object and of the value.
use Rattle.std.specs.Prelude.{Some}
use Rattle.std.proofs.Common.{ap, sym, ◌∙◌}
use Rattle.dm_typing.specs.Views.{view_over}
use Rattle.dm_typing.proofs.LaterLemmas.{begins-on}
use Rattle.dm_ebinary.proofs.AssignLemmas.{updated-integers, updated-pointer}
use Rattle.dm_ebinary.proofs.assignments.updated_by.Goals as goal

pub returns-in_ok-found-in-Some-clause-operand : goal.returns-in_ok-found-in-Some-clause-operand
returns-in_ok-found-in-Some-clause-operand c = λ later begins.
    ap Some (c.in_ok-found-in-Some.ensures.operand later begins (view_over later c.args.value.now))
    ∙ sym (updated-integers c.args.known.now later c.args.op c.args.object c.args.object c.args.value.now
    (begins-on c.args.known.now.types.shapes c.updated_integer.new.known.types.shapes later c.updated_integer.ensures.grows.shapes begins)
    c.requires.object c.requires.value c.in-Some.kinds c.in-Some.ensures)

pub returns-in-None-clause-operand : goal.returns-in-None-clause-operand
returns-in-None-clause-operand c = λ later begins.
    c.moved.ensures.operand later begins
    ∙ updated-pointer c.args.known.now later c.args.op c.args.object c.bare-plain.result c.args.value.now begins c.requires.object c.requires.value c.bare-plain.ensures c.in-None.ensures
