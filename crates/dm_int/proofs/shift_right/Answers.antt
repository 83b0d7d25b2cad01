use Rattle.std.proofs.Common.{sym, subst, ◌^◌, unsigned_abs}
use Rattle.dm_int.specs.Kinds as kinds
use Rattle.dm_int.specs.Ranges.{value-in_range}
use Rattle.dm_int.specs.Results.{in_range-shr}
use Rattle.dm_int.proofs.Wide.{wide, wide_shr}
use Rattle.dm_int.proofs.shift_right.Goals as goal

pub returns-then-count-from-clause-in_range : goal.returns-then-count-from-clause-in_range
returns-then-count-from-clause-in_range c =
    let f = wide_shr c.args.a (2 ^ unsigned_abs (wide c.args.count)) (value-in_range c.args.kind c.args.a c.requires) in
    subst (λ r. kinds.InRange c.args.kind r) (sym f) (in_range-shr c.args.kind c.args.a (2 ^ unsigned_abs (wide c.args.count)) c.requires)
