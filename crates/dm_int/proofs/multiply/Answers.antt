use Rattle.std.proofs.Common.{sym, ap, ◌∙◌, ◌≡◌, ◌*ℤ◌, Ok, false}
use Rattle.dm_int.specs.declared.Fault.TheVariants.{Overflow}
use Rattle.dm_int.specs.Kinds as kinds
use Rattle.dm_int.specs.Operators as operators
use Rattle.dm_int.specs.Ranges.{value-in_range}
use Rattle.dm_int.proofs.Wide.{wide, along, wide_is, wide_mul, wide_low_product, fit_unsigned}
use Rattle.dm_int.proofs.multiply.Goals as goal

pub returns-then-is_signed-clause-answer : goal.returns-then-is_signed-clause-answer
returns-then-is_signed-clause-answer c =
    along (operators.fit c.args.kind Overflow) (wide (wide c.args.a *ℤ wide c.args.b)) (c.args.a *ℤ c.args.b) c.fit.result
    (wide_mul c.args.kind c.args.a c.args.b (sym c.is_signed.ensures ∙ c.if-is_signed.true) c.requires.left c.requires.right) c.fit.ensures.answer

pub returns-else-is_signed-clause-answer : goal.returns-else-is_signed-clause-answer
returns-else-is_signed-clause-answer c =
    let s : kinds.is_signed c.args.kind ≡ false = sym c.is_signed.ensures ∙ c.if-is_signed.false in
    let e : wide c.convert.result ≡ kinds.convert c.args.kind (c.args.a *ℤ c.args.b) =
    wide_is c.convert.result (value-in_range c.args.kind c.convert.result c.convert.ensures.in_range) ∙ c.convert.ensures.value
    ∙ wide_low_product c.args.kind c.args.a c.args.b s c.requires.left c.requires.right in
    ap (λ z. Ok z) e ∙ sym (fit_unsigned c.args.kind Overflow (c.args.a *ℤ c.args.b) s)
