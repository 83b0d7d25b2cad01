-- Pointers to compatible types.
use Rattle.std.specs.Prelude.{Some, true, false}
use Rattle.std.proofs.Common.{ap, sym, ◌∙◌}
use Rattle.dm_typing.specs.Views.{view_over}
use Rattle.dm_typing.proofs.LaterLemmas.{begins-on}
use Rattle.dm_ebinary.proofs.BinaryLemmas.{ordered-later}
use Rattle.dm_ebinary.proofs.operations.ordered.Goals as goal

pub returns-then-not-point_alike-clause-way : goal.returns-then-not-point_alike-clause-way
returns-then-not-point_alike-clause-way c = λ later begins.
    sym (ordered-later c.args.known.now later c.args.a.now c.args.b.now begins c.requires.left c.requires.right false (sym c.point_alike.ensures ∙ c.if-not-point_alike.true))

pub returns-clause-way : goal.returns-clause-way
returns-clause-way c = λ later begins.
    ap Some (c.in_ok-way.ensures.way later begins (view_over later c.args.a.now) (view_over later c.args.b.now))
    ∙ sym (ordered-later c.args.known.now later c.args.a.now c.args.b.now (begins-on c.args.known.now.types.shapes c.of_kind.new.known.types.shapes later c.of_kind.ensures.grows.shapes begins)
    c.requires.left c.requires.right true (sym c.point_alike.ensures ∙ c.if-not-point_alike.false))
