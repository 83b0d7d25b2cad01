-- Each operand is brought to its kind.
use Rattle.std.proofs.Common.{ap, ◌∙◌}
use Rattle.dm_typing.specs.Conversions.{as_type}
use Rattle.dm_typing.specs.Views.{type_over}
use Rattle.dm_typing.proofs.LaterLemmas.{begins-on}
use Rattle.dm_ebinary.proofs.BinaryLemmas.{integers-so, still-numbered}
use Rattle.dm_typing.proofs.GivesLemmas.{grows-on}
use Rattle.dm_ebinary.proofs.operations.of_integers.Goals as goal

pub returns-clause-way : goal.returns-clause-way
returns-clause-way c = λ later begins a b.
    let one = c.intern.new.self.types.shapes in
    let two = c.intern-2.new.self.types.shapes in
    let three = c.intern-3.new.self.types.shapes in
    let behind = begins-on two three later c.intern-3.ensures.grows.shapes begins in
    let before = begins-on one two later c.intern-2.ensures.grows.shapes behind in
    integers-so c.args.op c.args.kinds.left c.args.kinds.right a b (as_type (type_over later c.in_ok-left.left) a) (as_type (type_over later c.in_ok-right.right) b)
    (type_over later c.in_ok-kind.kind) c.sides_of-works.result c.sides_of-works.ensures
    (ap (λ type. as_type type a) (c.in_ok-left.ensures.number.1 later before)) (ap (λ type. as_type type b) (c.in_ok-right.ensures.number.1 later behind))
    (c.in_ok-kind.ensures.number.1 later begins ∙ c.result_kind.ensures)

pub returns-clause-numbered : goal.returns-clause-numbered
returns-clause-numbered c =
    let one = c.intern.new.self.types.shapes in
    let two = c.intern-2.new.self.types.shapes in
    let three = c.intern-3.new.self.types.shapes in (
      still-numbered one three c.in_ok-left.left (begins-on one two three c.intern-2.ensures.grows.shapes c.intern-3.ensures.grows.shapes) c.in_ok-left.ensures.number.0,
      still-numbered two three c.in_ok-right.right c.intern-3.ensures.grows.shapes c.in_ok-right.ensures.number.0,
      c.in_ok-kind.ensures.number.0,
    )

pub returns-clause-grows : goal.returns-clause-grows
returns-clause-grows c =
    grows-on c.args.known.now c.intern.new.self c.intern-3.new.self c.intern.ensures.grows
    (grows-on c.intern.new.self c.intern-2.new.self c.intern-3.new.self c.intern-2.ensures.grows c.intern-3.ensures.grows)
