-- The value is brought to its kind.
use Rattle.std.proofs.Common.{ap, sym, ◌∙◌}
use Rattle.dm_type.specs.CTypes.{integer}
use Rattle.dm_typing.specs.Conversions.{as_type, as_kind}
use Rattle.dm_typing.specs.Views.{type_over}
use Rattle.dm_typing.proofs.LaterLemmas.{begins-on}
use Rattle.dm_ebinary.proofs.AssignLemmas.{two-parts, update-brought, brought-kinds}
use Rattle.dm_ebinary.proofs.BinaryLemmas.{still-numbered}
use Rattle.dm_typing.proofs.GivesLemmas.{grows-on}
use Rattle.dm_ebinary.proofs.assignments.updated_integer.Goals as goal

pub returns-clause-operand : goal.returns-clause-operand
returns-clause-operand c = λ later begins value.
    let one = c.intern.new.self.types.shapes in
    let two = c.intern-2.new.self.types.shapes in
    two-parts (type_over later c.in_ok-works.works) (integer c.sides_of-brought.result.left) (as_type (type_over later c.in_ok-to.to) value) (as_kind c.sides_of-brought.result.right value)
    (c.in_ok-works.ensures.number.1 later begins)
    (ap (λ type. as_type type value) (c.in_ok-to.ensures.number.1 later (begins-on one two later c.intern-2.ensures.grows.shapes begins)))
    ∙ ap (brought-kinds value) c.sides_of-brought.ensures
    ∙ sym (update-brought c.args.op c.args.kinds.left c.args.kinds.right value)

pub returns-clause-numbered : goal.returns-clause-numbered
returns-clause-numbered c = (
  c.in_ok-works.ensures.number.0,
  still-numbered c.intern.new.self.types.shapes c.intern-2.new.self.types.shapes c.in_ok-to.to c.intern-2.ensures.grows.shapes c.in_ok-to.ensures.number.0,
)

pub returns-clause-grows : goal.returns-clause-grows
returns-clause-grows c = grows-on c.args.known.now c.intern.new.self c.intern-2.new.self c.intern.ensures.grows c.intern-2.ensures.grows
