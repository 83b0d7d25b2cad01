use Rattle.std.proofs.Common.{sym, ap, ◌∙◌, of_z, int_div}
use Rattle.std.specs.Int.{w128}
use Rattle.dm_int.specs.declared.Fault.TheVariants.{Overflow}
use Rattle.dm_int.specs.Operators as operators
use Rattle.dm_int.specs.Ranges.{value-in_range}
use Rattle.dm_int.proofs.Wide.{wide, along, wide_div, divide_is}
use Rattle.dm_int.proofs.divide.Goals as goal

pub returns-clause-answer : goal.returns-clause-answer
returns-clause-answer c =
    along (operators.fit c.args.kind Overflow) (wide (int_div (wide c.args.a) (wide c.args.b))) (int_div c.args.a c.args.b) c.fit.result (wide_div c.args.a c.args.b (value-in_range c.args.kind c.args.a c.requires.left) (value-in_range c.args.kind c.args.b c.requires.right)) c.fit.ensures.answer
    ∙ sym (divide_is c.args.kind c.args.a c.args.b (λ e. c.if-b-eq0.false (ap (of_z w128) e)))
