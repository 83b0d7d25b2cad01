-- A pointer is moved back, or two have a distance.
use Rattle.std.specs.Prelude.{Some, true, false, []}
use Rattle.std.proofs.Common.{ap, sym, ◌∙◌}
use Rattle.dm_typing.specs.Rules.{pair}
use Rattle.dm_typing.specs.Views.{view_over}
use Rattle.dm_typing.proofs.LaterLemmas.{begins-on}
use Rattle.dm_typing.proofs.ValueLemmas.{kind-view}
use Rattle.dm_ebinary.proofs.BinaryLemmas.{difference-moves, difference-apart}
use Rattle.dm_ebinary.proofs.operations.subtracted.Goals as goal

pub returns-then-moves_by-clause-way : goal.returns-then-moves_by-clause-way
returns-then-moves_by-clause-way c = λ later begins.
    ap Some (c.as_they_are.ensures.way later (view_over later c.args.a.now) (view_over later c.args.b.now))
    ∙ ap (λ type. Some (pair (view_over later c.args.a.now) (view_over later c.args.b.now) type)) (sym (kind-view (record { shapes = later; structs = [] }) c.args.a.now))
    ∙ sym (difference-moves c.args.known.now later c.args.a.now c.args.b.now begins c.requires.left c.requires.right (sym c.moves_by.ensures ∙ c.if-moves_by.true))

pub returns-then-not-have_distance-clause-way : goal.returns-then-not-have_distance-clause-way
returns-then-not-have_distance-clause-way c = λ later begins.
    sym (difference-apart c.args.known.now later c.args.a.now c.args.b.now begins c.requires.left c.requires.right (sym c.moves_by.ensures ∙ c.if-moves_by.false)
    false (sym c.have_distance.ensures ∙ c.if-not-have_distance.true))

pub returns-clause-way : goal.returns-clause-way
returns-clause-way c = λ later begins.
    ap Some (c.in_ok-way.ensures.way later begins (view_over later c.args.a.now) (view_over later c.args.b.now))
    ∙ sym (difference-apart c.args.known.now later c.args.a.now c.args.b.now (begins-on c.args.known.now.types.shapes c.of_kind.new.known.types.shapes later c.of_kind.ensures.grows.shapes begins)
    c.requires.left c.requires.right (sym c.moves_by.ensures ∙ c.if-moves_by.false)
    true (sym c.have_distance.ensures ∙ c.if-not-have_distance.false))
