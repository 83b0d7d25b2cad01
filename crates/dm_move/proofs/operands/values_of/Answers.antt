-- No operand is left.
use Rattle.std.proofs.Common.{◌≤◌, length, map, sym, ap, ◌∙◌, arith}
use Rattle.std.proofs.lemmas.List.{take_all}
use Rattle.dm_move.proofs.OperandLemmas.{given, given-all}
use Rattle.dm_move.proofs.operands.values_of.Goals as goal

pub returns : goal.returns
returns c = λ table.
    let done : length c.args.all.now ≤ c.loop-operand.operand-index = omega (arith, c.loop-operand-test.false, c.loop-operand.auto.operand-index-end) in
    c.loop-operand.invariant ∙ (ap (map given) (take_all c.loop-operand.operand-index c.args.all.now done) ∙ sym (given-all table c.args.all.now))
