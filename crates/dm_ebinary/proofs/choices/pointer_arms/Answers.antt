-- The tests one by one.
use Rattle.std.specs.Prelude.{Some}
use Rattle.std.proofs.Common.{ap, sym, ◌∙◌}
use Rattle.dm_typing.proofs.LaterLemmas.{begins-on}
use Rattle.dm_ebinary.proofs.ChoiceStepLemmas.{pointers-alike, pointers-right, pointers-left, pointers-void, pointers-never}
use Rattle.dm_ebinary.proofs.choices.pointer_arms.Goals as goal

pub pointer_to_composite-requires-clause-alike : goal.pointer_to_composite-requires-clause-alike
pointer_to_composite-requires-clause-alike c = sym c.are_alike.ensures ∙ c.if-are_alike.true

pub returns-then-are_alike-clause-kind : goal.returns-then-are_alike-clause-kind
returns-then-are_alike-clause-kind c = λ later begins.
    ap Some (c.in_ok-kind.ensures.number.1 later begins)
    ∙ pointers-alike c.args.known.now later c.args.a.now c.args.b.now
    (begins-on c.args.known.now.types.shapes c.pointer_to_composite.new.known.types.shapes later c.pointer_to_composite.ensures.grows.shapes begins)
    c.requires.left c.requires.right c.args.to c.args.from c.requires.to c.requires.from (sym c.if-are_alike.true ∙ c.are_alike.ensures)

pub returns-then-is_null-clause-kind : goal.returns-then-is_null-clause-kind
returns-then-is_null-clause-kind c = λ later begins.
    pointers-right c.args.known.now later c.args.a.now c.args.b.now begins c.requires.left c.requires.right c.args.to c.args.from c.requires.to c.requires.from
    (sym c.if-are_alike.false ∙ c.are_alike.ensures) (sym c.if-is_null.true ∙ c.is_null.ensures later begins)

pub returns-then-is_null-2-clause-kind : goal.returns-then-is_null-2-clause-kind
returns-then-is_null-2-clause-kind c = λ later begins.
    pointers-left c.args.known.now later c.args.a.now c.args.b.now begins c.requires.left c.requires.right c.args.to c.args.from c.requires.to c.requires.from
    (sym c.if-are_alike.false ∙ c.are_alike.ensures) (sym c.if-is_null.false ∙ c.is_null.ensures later begins) (sym c.if-is_null-2.true ∙ c.is_null-2.ensures later begins)

pub returns-then-either_void-clause-kind : goal.returns-then-either_void-clause-kind
returns-then-either_void-clause-kind c = λ later begins.
    let before = begins-on c.args.known.now.types.shapes c.pointer_to_void.new.known.types.shapes later c.pointer_to_void.ensures.grows.shapes begins in
    ap Some (c.in_ok-kind-2.ensures.number.1 later begins)
    ∙ pointers-void c.args.known.now later c.args.a.now c.args.b.now before
    c.requires.left c.requires.right c.args.to c.args.from c.requires.to c.requires.from
    (sym c.if-are_alike.false ∙ c.are_alike.ensures) (sym c.if-is_null.false ∙ c.is_null.ensures later before) (sym c.if-is_null-2.false ∙ c.is_null-2.ensures later before)
    (sym c.if-either_void.true ∙ c.either_void.ensures)

pub returns-clause-kind : goal.returns-clause-kind
returns-clause-kind c = λ later begins.
    pointers-never c.args.known.now later c.args.a.now c.args.b.now begins c.requires.left c.requires.right c.args.to c.args.from c.requires.to c.requires.from
    (sym c.if-are_alike.false ∙ c.are_alike.ensures) (sym c.if-is_null.false ∙ c.is_null.ensures later begins) (sym c.if-is_null-2.false ∙ c.is_null-2.ensures later begins)
    (sym c.if-either_void.false ∙ c.either_void.ensures)
