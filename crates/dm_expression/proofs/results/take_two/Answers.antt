use Rattle.dm_expression.proofs.TakenLemmas.{no-operand, one-operand}
use Rattle.dm_expression.proofs.results.take_two.Goals as goal

pub returns-in-Some-take_result : goal.returns-in-Some-take_result
returns-in-Some-take_result g c =
    one-operand 1 c.args.row.now c.take_result.new.self c.take_result-2.new.self _ c.in-Some-take_result.a c.in-Some-take_result.field-0-1
    (one-operand 0 c.args.row.now c.args.row.now c.take_result.new.self _ c.in-Some.b c.in-Some.field-0-1 (no-operand c.args.row.now) c.in-Some.ensures.0 c.in-Some.ensures.1)
    c.in-Some-take_result.ensures.0 c.in-Some-take_result.ensures.1
