-- The type that is pointed to comes first.
use Rattle.std.proofs.Common.{ap, ◌∙◌}
use Rattle.dm_type.specs.CTypes.{pointer}
use Rattle.dm_typing.proofs.LaterLemmas.{begins-on}
use Rattle.dm_typing.proofs.GivesLemmas.{grows-on}
use Rattle.dm_ebinary.proofs.choices.pointer_to.Goals as goal

pub returns-clause-number : goal.returns-clause-number
returns-clause-number c = (
  c.in_ok-kind.ensures.number.0,
  λ later begins. c.in_ok-kind.ensures.number.1 later begins
      ∙ ap pointer (c.in_ok-inner.ensures.number.1 later (begins-on c.const_if.new.known.types.shapes c.intern.new.self.types.shapes later c.intern.ensures.grows.shapes begins)),
)

pub returns-clause-grows : goal.returns-clause-grows
returns-clause-grows c = grows-on c.args.known.now c.const_if.new.known c.intern.new.self c.const_if.ensures.grows c.intern.ensures.grows
