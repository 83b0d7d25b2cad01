use Rattle.std.proofs.Common.{◌∙◌, negsuc, ◌-ℤ◌}
use Rattle.dm_int.specs.Kinds as kinds
use Rattle.dm_int.specs.Ranges.{value-in_range}
use Rattle.dm_int.proofs.Wide.{wide, along, wide_is, wide_complement}
use Rattle.dm_int.proofs.complement.Goals as goal

pub returns-clause-value : goal.returns-clause-value
returns-clause-value c =
    wide_is c.convert.result (value-in_range c.args.kind c.convert.result c.convert.ensures.in_range)
    ∙ along (kinds.convert c.args.kind) (wide (negsuc 0 -ℤ wide c.args.a)) (negsuc 0 -ℤ c.args.a) c.convert.result (wide_complement c.args.a (value-in_range c.args.kind c.args.a c.requires)) c.convert.ensures.value
