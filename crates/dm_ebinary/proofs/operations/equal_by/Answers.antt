-- The tests one by one.
use Rattle.std.proofs.Common.{sym, ◌∙◌}
use Rattle.dm_ebinary.proofs.BinaryLemmas.{equal-alike, equal-right-null, equal-left-null, equal-left-void, equal-right-void, equal-never}
use Rattle.dm_ebinary.proofs.operations.equal_by.Goals as goal

pub returns-then-point_alike : goal.returns-then-point_alike
returns-then-point_alike c = λ later begins.
    equal-alike c.args.known.now later c.args.a.now c.args.b.now begins c.requires.left c.requires.right (sym c.if-point_alike.true ∙ c.point_alike.ensures)

pub returns-then-is_beside_null : goal.returns-then-is_beside_null
returns-then-is_beside_null c = λ later begins.
    equal-right-null c.args.known.now later c.args.a.now c.args.b.now begins c.requires.left c.requires.right (sym c.if-point_alike.false ∙ c.point_alike.ensures)
    (sym c.if-is_beside_null.true ∙ c.is_beside_null.ensures later begins)

pub returns-then-is_beside_null-2 : goal.returns-then-is_beside_null-2
returns-then-is_beside_null-2 c = λ later begins.
    equal-left-null c.args.known.now later c.args.a.now c.args.b.now begins c.requires.left c.requires.right (sym c.if-point_alike.false ∙ c.point_alike.ensures)
    (sym c.if-is_beside_null.false ∙ c.is_beside_null.ensures later begins)
    (sym c.if-is_beside_null-2.true ∙ c.is_beside_null-2.ensures later begins)

pub returns-then-is_void_beside : goal.returns-then-is_void_beside
returns-then-is_void_beside c = λ later begins.
    equal-left-void c.args.known.now later c.args.a.now c.args.b.now begins c.requires.left c.requires.right (sym c.if-point_alike.false ∙ c.point_alike.ensures)
    (sym c.if-is_beside_null.false ∙ c.is_beside_null.ensures later begins)
    (sym c.if-is_beside_null-2.false ∙ c.is_beside_null-2.ensures later begins)
    (sym c.if-is_void_beside.true ∙ c.is_void_beside.ensures)

pub returns-then-is_beside_void : goal.returns-then-is_beside_void
returns-then-is_beside_void c = λ later begins.
    equal-right-void c.args.known.now later c.args.a.now c.args.b.now begins c.requires.left c.requires.right (sym c.if-point_alike.false ∙ c.point_alike.ensures)
    (sym c.if-is_beside_null.false ∙ c.is_beside_null.ensures later begins)
    (sym c.if-is_beside_null-2.false ∙ c.is_beside_null-2.ensures later begins)
    (sym c.if-is_void_beside.false ∙ c.is_void_beside.ensures)
    (sym c.if-is_beside_void.true ∙ c.is_beside_void.ensures)

pub returns : goal.returns
returns c = λ later begins.
    equal-never c.args.known.now later c.args.a.now c.args.b.now begins c.requires.left c.requires.right (sym c.if-point_alike.false ∙ c.point_alike.ensures)
    (sym c.if-is_beside_null.false ∙ c.is_beside_null.ensures later begins)
    (sym c.if-is_beside_null-2.false ∙ c.is_beside_null-2.ensures later begins)
    (sym c.if-is_void_beside.false ∙ c.is_void_beside.ensures)
    (sym c.if-is_beside_void.false ∙ c.is_beside_void.ensures)
