-- The value is the only result of the row.
use Rattle.std.proofs.Common.{◌++◌}
use Rattle.dm_program.specs.Sources.{meant}
use Rattle.dm_state.proofs.FitLemmas.{run-under}
use Rattle.dm_exec.proofs.EvaluatedLemmas.{evaluated-alone}
use Rattle.dm_exec.proofs.TakeLemmas.{ended-left}
use Rattle.dm_exec.proofs.taking.conclude.Goals as goal

pub result_of-result-requires : goal.result_of-result-requires
result_of-result-requires c =
    let one = c.requires.ongoing in
    let found = evaluated-alone c.args.program.now.table c.args.ongoing.now.expression one.run one.under c.requires.evaluated in
    (found.operand, found.weight, found.only)

pub returns : goal.returns
returns c = λ tasks choice.
    let table = c.args.program.now.table in
    let one = c.requires.ongoing in
    let expression = c.args.ongoing.now.expression in
    let found = evaluated-alone table expression one.run one.under c.requires.evaluated in
    ended-left table (meant c.args.program.now) choice c.args.running.now c.conclude.new.self tasks c.args.ongoing.now c.in_ok-turn.turn (expression.row.0 ++ expression.row.1) one.run c.result_of-result.result found
    (run-under table expression one.run one.under) (c.result_of-result.ensures found.operand found.weight found.only) (c.in_ok-turn.ensures tasks)
