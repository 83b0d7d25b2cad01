-- With const or as it is.
use Rattle.std.proofs.Common.{ap, sym, ◌∙◌}
use Rattle.dm_typing.specs.Rules.{with_const_if}
use Rattle.dm_typing.specs.Views.{type_over}
use Rattle.dm_ebinary.proofs.choices.const_if.Goals as goal

pub returns-then-not-constant-clause-number : goal.returns-then-not-constant-clause-number
returns-then-not-constant-clause-number c = (c.requires, λ later begins. ap (λ t. with_const_if t (type_over later c.args.to)) (sym c.if-not-constant.true))

pub returns-clause-number : goal.returns-clause-number
returns-clause-number c =
    (c.in_ok-kind.ensures.number.0, λ later begins. c.in_ok-kind.ensures.number.1 later begins ∙ ap (λ t. with_const_if t (type_over later c.args.to)) (sym c.if-not-constant.false))
