-- The first of three that holds.
use Rattle.std.proofs.Common.{sym, ◌∙◌}
use Rattle.dm_typing.specs.Views.{known_over, view_over}
use Rattle.dm_einitial.proofs.ScalarLemmas.{static-constant, static-null, static-address}
use Rattle.dm_einitial.proofs.scalars.is_static_value.Goals as goal

pub returns-then-is_constant_expression : goal.returns-then-is_constant_expression
returns-then-is_constant_expression c = λ later begins.
    sym (static-constant (known_over later c.args.known.now) (view_over later c.args.value.now) (sym (c.is_constant_expression.ensures later begins) ∙ c.if-is_constant_expression.true))

pub returns-then-is_null : goal.returns-then-is_null
returns-then-is_null c = λ later begins.
    sym (static-null (known_over later c.args.known.now) (view_over later c.args.value.now)
    (sym (c.is_constant_expression.ensures later begins) ∙ c.if-is_constant_expression.false) (sym (c.is_null.ensures later begins) ∙ c.if-is_null.true))

pub returns : goal.returns
returns c = λ later begins.
    c.is_address_constant.ensures later begins
    ∙ sym (static-address (known_over later c.args.known.now) (view_over later c.args.value.now)
    (sym (c.is_constant_expression.ensures later begins) ∙ c.if-is_constant_expression.false) (sym (c.is_null.ensures later begins) ∙ c.if-is_null.false))
