use Rattle.dm_expression.proofs.TakenLemmas.{no-operand, one-operand}
use Rattle.dm_expression.proofs.results.take_one.Goals as goal

pub returns-in-Some : goal.returns-in-Some
returns-in-Some g c = one-operand 0 c.args.row.now c.args.row.now c.take_result.new.self _ c.in-Some.a c.in-Some.field-0-1 (no-operand c.args.row.now) c.in-Some.ensures.0 c.in-Some.ensures.1
