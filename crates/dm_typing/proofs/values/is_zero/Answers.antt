-- The value of a constant expression is the same whatever numbers come.
use Rattle.std.proofs.Common.{rules, ap, sym, ◌∙◌, ◌≡◌, ℤ, pos, to_z, of_z}
use mir.Syntax.{w128}
use Rattle.dm_int.specs.Operators.{int_eq}
use Rattle.dm_typing.specs.Conversions.{is_zero_value}
use Rattle.dm_typing.proofs.ValueLemmas.{constant-later}
use Rattle.dm_typing.proofs.values.is_zero.Goals as goal

pub returns-in-Some : goal.returns-in-Some
returns-in-Some c = λ later begins.
    let same : to_z w128 (of_z w128 c.in-Some.value) ≡ c.in-Some.value = search rules in
    c.is_nil.ensures ∙ (ap (λ z. int_eq z (pos 0)) same
    ∙ ap is_zero_value (sym (constant-later c.args.known.now later c.args.core.now begins c.requires ∙ (sym c.constant.ensures ∙ c.in-Some.is))))

pub returns-in-None : goal.returns-in-None
returns-in-None c = λ later begins.
    ap is_zero_value (sym (constant-later c.args.known.now later c.args.core.now begins c.requires ∙ (sym c.constant.ensures ∙ c.in-None.is)))
