use Rattle.std.proofs.Common.{sym, subst, ◌≡◌, ◌+ℤ◌, ◌-ℤ◌}
use Rattle.dm_int.specs.declared.Fault.TheVariants.{Overflow}
use Rattle.dm_int.specs.Kinds as kinds
use Rattle.dm_int.specs.Operators as operators
use Rattle.dm_int.specs.Ranges.{value-in_range}
use Rattle.dm_int.proofs.Wide.{wide, along, wide_add, wide_sub}
use Rattle.std.proofs.lemmas.Nat.{or_lt, xor_lt}
use Rattle.dm_int.proofs.binary.Goals as goal

pub value_of-requires-in-Xor : goal.value_of-requires-in-Xor
value_of-requires-in-Xor c = xor_lt _ _ _ c.bits_of-in-Xor.ensures.bound c.bits_of-in-Xor-2.ensures.bound

pub value_of-requires-in-Or : goal.value_of-requires-in-Or
value_of-requires-in-Or c = or_lt _ _ _ c.bits_of-in-Or.ensures.bound c.bits_of-in-Or-2.ensures.bound

pub returns-in-Add-clause-answer : goal.returns-in-Add-clause-answer
returns-in-Add-clause-answer c =
    let q : kinds.InRange c.args.kind c.args.b = subst (λ o. operators.IsRight o c.args.kind c.args.b) c.in-Add.is c.requires.right in
    subst (λ o. c.fit.result ≡ operators.binary o c.args.kind c.args.a c.args.b) (sym c.in-Add.is)
    (along (operators.fit c.args.kind Overflow) (wide (wide c.args.a +ℤ wide c.args.b)) (c.args.a +ℤ c.args.b) c.fit.result
    (wide_add c.args.a c.args.b (value-in_range c.args.kind c.args.a c.requires.left) (value-in_range c.args.kind c.args.b q)) c.fit.ensures.answer)

pub returns-in-Sub-clause-answer : goal.returns-in-Sub-clause-answer
returns-in-Sub-clause-answer c =
    let q : kinds.InRange c.args.kind c.args.b = subst (λ o. operators.IsRight o c.args.kind c.args.b) c.in-Sub.is c.requires.right in
    subst (λ o. c.fit-in-Sub.result ≡ operators.binary o c.args.kind c.args.a c.args.b) (sym c.in-Sub.is)
    (along (operators.fit c.args.kind Overflow) (wide (wide c.args.a -ℤ wide c.args.b)) (c.args.a -ℤ c.args.b) c.fit-in-Sub.result
    (wide_sub c.args.a c.args.b (value-in_range c.args.kind c.args.a c.requires.left) (value-in_range c.args.kind c.args.b q)) c.fit-in-Sub.ensures.answer)
