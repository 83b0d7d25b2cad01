use Rattle.std.proofs.Common.{rules, sym, subst, ◌≡◌, pos, ◌+ℤ◌, ◌-ℤ◌, to_z}
use Rattle.std.specs.Int.{w128}
use Rattle.dm_int.specs.Kinds as kinds
use Rattle.dm_int.specs.Ranges.{in_range-value_of}
use Rattle.dm_int.proofs.Wide.{wide}
use Rattle.dm_int.proofs.value_of.Goals as goal

pub returns-then-value-greatest-clause-in_range : goal.returns-then-value-greatest-clause-in_range
returns-then-value-greatest-clause-in_range c =
    let e : wide (to_z w128 c.args.bits -ℤ wide (wide c.mask.result +ℤ pos 1)) ≡ kinds.value_of c.args.kind c.args.bits = search rules in
    subst (λ r. kinds.InRange c.args.kind r) (sym e) (in_range-value_of c.args.kind c.args.bits c.requires)
