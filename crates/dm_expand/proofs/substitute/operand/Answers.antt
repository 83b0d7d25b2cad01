use Rattle.std.proofs.Common.{ap, sym, arith, length}
use Rattle.dm_expand.proofs.FillLemmas.{operands-nothing, operands-some}
use Rattle.dm_expand.proofs.substitute.operand.Goals as goal

pub returns-then-count-eq0 : goal.returns-then-count-eq0
returns-then-count-eq0 c = sym (operands-nothing c.args.blank c.args.tokens.items (omega (arith, ap length c.as_slice-count.ensures.value, c.if-count-eq0.true)))

pub returns : goal.returns
returns c = sym (operands-some c.args.blank c.args.tokens.items (omega (arith, ap length c.as_slice-count.ensures.value, c.if-count-eq0.false)))
