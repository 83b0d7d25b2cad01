-- The rules in their order.
use Rattle.std.specs.Prelude.{not, ◌||◌, true}
use Rattle.std.proofs.Common.{ap, ap₂, sym, ◌∙◌}
use Rattle.dm_typing.specs.Rules.{is_assignable}
use Rattle.dm_typing.specs.Views.{known_over, view_over, type_over}
use Rattle.dm_edecl.specs.Initialising.{has_value}
use Rattle.dm_einitial.specs.Steps.{rule_by}
use Rattle.dm_einitial.proofs.scalars.broken_rule.Goals as goal

pub returns-then-not-is_static_if : goal.returns-then-not-is_static_if
returns-then-not-is_static_if c = λ later begins.
    sym (ap (λ a. rule_by a (is_assignable (known_over later c.args.known.now) (view_over later c.args.value.now) (type_over later c.args.kind)) (not c.args.fixed || has_value (known_over later c.args.known.now) (view_over later c.args.value.now)))
    (sym (c.is_static_if.ensures later begins) ∙ c.if-not-is_static_if.true))

pub returns-then-not-is_assignable : goal.returns-then-not-is_assignable
returns-then-not-is_assignable c = λ later begins.
    sym (ap₂ (λ a b. rule_by a b (not c.args.fixed || has_value (known_over later c.args.known.now) (view_over later c.args.value.now)))
    (sym (c.is_static_if.ensures later begins) ∙ c.if-not-is_static_if.false) (sym (c.is_assignable.ensures later begins) ∙ c.if-not-is_assignable.true))

pub returns-then-not-has_value_if : goal.returns-then-not-has_value_if
returns-then-not-has_value_if c = λ later begins.
    sym (ap₂ (λ a b. rule_by a b (not c.args.fixed || has_value (known_over later c.args.known.now) (view_over later c.args.value.now)))
    (sym (c.is_static_if.ensures later begins) ∙ c.if-not-is_static_if.false) (sym (c.is_assignable.ensures later begins) ∙ c.if-not-is_assignable.false)
    ∙ ap (rule_by true true) (sym (c.has_value_if.ensures later begins) ∙ c.if-not-has_value_if.true))

pub returns : goal.returns
returns c = λ later begins.
    sym (ap₂ (λ a b. rule_by a b (not c.args.fixed || has_value (known_over later c.args.known.now) (view_over later c.args.value.now)))
    (sym (c.is_static_if.ensures later begins) ∙ c.if-not-is_static_if.false) (sym (c.is_assignable.ensures later begins) ∙ c.if-not-is_assignable.false)
    ∙ ap (rule_by true true) (sym (c.has_value_if.ensures later begins) ∙ c.if-not-has_value_if.false))
