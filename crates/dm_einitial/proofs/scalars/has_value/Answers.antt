-- The value of a constant expression is the same whatever numbers come.
use Rattle.std.specs.Prelude.{is_some}
use Rattle.std.proofs.Common.{ap, sym, ◌∙◌}
use Rattle.dm_typing.specs.Views.{known_over, view_over}
use Rattle.dm_typing.proofs.ValueLemmas.{constant-later}
use Rattle.dm_einitial.proofs.ScalarLemmas.{value-none, value-some}
use Rattle.dm_einitial.proofs.scalars.has_value.Goals as goal

pub returns-then-is_constant_expression : goal.returns-then-is_constant_expression
returns-then-is_constant_expression c = λ later begins.
    c.is_some.ensures ∙ ap is_some (c.constant.ensures ∙ sym (constant-later c.args.known.now later c.args.value.now begins c.requires))
    ∙ sym (value-some (known_over later c.args.known.now) (view_over later c.args.value.now) (sym (c.is_constant_expression.ensures later begins) ∙ c.if-is_constant_expression.true))

pub returns-else-is_constant_expression : goal.returns-else-is_constant_expression
returns-else-is_constant_expression c = λ later begins.
    sym (value-none (known_over later c.args.known.now) (view_over later c.args.value.now) (sym (c.is_constant_expression.ensures later begins) ∙ c.if-is_constant_expression.false))
