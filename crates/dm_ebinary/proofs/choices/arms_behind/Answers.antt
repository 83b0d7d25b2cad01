-- A scalar first.
use Rattle.std.specs.Prelude.{if◌then◌else◌, None}
use Rattle.std.proofs.Common.{ap, sym, ◌∙◌}
use Rattle.dm_tree.specs.Scenes.{is_scalar}
use Rattle.dm_typing.specs.Rules.{arms}
use Rattle.dm_typing.specs.Views.{view_over, known_over}
use Rattle.dm_typing.proofs.LaterLemmas.{begins-on}
use Rattle.dm_typing.proofs.ValueLemmas.{kind-later}
use Rattle.dm_ebinary.proofs.choices.arms_behind.Goals as goal

pub returns-then-not-is_scalar-clause-way : goal.returns-then-not-is_scalar-clause-way
returns-then-not-is_scalar-clause-way c = λ later begins.
    sym (ap (λ test. if test then arms (known_over later c.args.known.now) (view_over later c.args.a.now) (view_over later c.args.b.now) else None)
    (ap is_scalar (kind-later c.args.known.now.types.shapes later c.args.condition.now begins c.requires.condition) ∙ (sym c.is_scalar.ensures ∙ c.if-not-is_scalar.true)))

pub returns-clause-way : goal.returns-clause-way
returns-clause-way c = λ later begins.
    c.in_ok-found.ensures.way later begins
    ∙ sym (ap (λ test. if test then arms (known_over later c.args.known.now) (view_over later c.args.a.now) (view_over later c.args.b.now) else None)
    (ap is_scalar (kind-later c.args.known.now.types.shapes later c.args.condition.now
    (begins-on c.args.known.now.types.shapes c.arms.new.known.types.shapes later c.arms.ensures.grows.shapes begins) c.requires.condition)
    ∙ (sym c.is_scalar.ensures ∙ c.if-not-is_scalar.false)))
