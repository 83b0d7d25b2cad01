use Rattle.std.proofs.Common.{rules, sym, subst, ◌≡◌}
use Rattle.dm_int.specs.Kinds as kinds
use Rattle.dm_int.specs.Ranges.{IsConverted-convert}
use Rattle.dm_int.proofs.Wide.{wide}
use Rattle.dm_int.proofs.convert.Goals as goal

pub returns-else-eq-clause-converted : goal.returns-else-eq-clause-converted
returns-else-eq-clause-converted c =
    let e : wide c.value_of.result ≡ kinds.convert c.args.kind c.args.value = search rules in
    subst (λ r. kinds.IsConverted c.args.kind c.args.value r) (sym e) (IsConverted-convert c.args.kind c.args.value)
