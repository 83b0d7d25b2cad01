use Rattle.std.proofs.Common.{pos, neg_ℤ, ◌-ℤ◌}
use Rattle.dm_int.specs.declared.Fault.TheVariants.{Overflow}
use Rattle.dm_int.specs.Operators as operators
use Rattle.dm_int.specs.Ranges.{value-in_range}
use Rattle.dm_int.proofs.Wide.{wide, along, wide_neg}
use Rattle.dm_int.proofs.negate.Goals as goal

pub returns-clause-answer : goal.returns-clause-answer
returns-clause-answer c =
    along (operators.fit c.args.kind Overflow) (wide (pos 0 -ℤ wide c.args.a)) (neg_ℤ c.args.a) c.fit.result (wide_neg c.args.a (value-in_range c.args.kind c.args.a c.requires)) c.fit.ensures.answer
