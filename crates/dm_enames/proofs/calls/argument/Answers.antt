-- It is converted if it may be passed.
use Rattle.std.specs.Prelude.{Some, None, if◌then◌else◌}
use Rattle.std.proofs.Common.{ap, sym, ◌∙◌}
use Rattle.dm_typing.specs.Conversions.{as_type}
use Rattle.dm_typing.specs.Views.{view_over, type_over}
use Rattle.dm_enames.proofs.calls.argument.Goals as goal

pub returns-then-not-is_assignable-clause-argument : goal.returns-then-not-is_assignable-clause-argument
returns-then-not-is_assignable-clause-argument c = λ later begins.
    let value = view_over later c.args.value in
    let type = type_over later c.args.parameter in
    ap (λ b. if b then Some (as_type type value) else None) (sym c.if-not-is_assignable.true ∙ c.is_assignable.ensures later begins)

pub returns-clause-argument : goal.returns-clause-argument
returns-clause-argument c = λ later begins.
    let value = view_over later c.args.value in
    let type = type_over later c.args.parameter in
    ap Some (c.in_ok-made.ensures.value later begins)
    ∙ ap (λ b. if b then Some (as_type type value) else None) (sym c.if-not-is_assignable.false ∙ c.is_assignable.ensures later begins)
