-- The tree names this function.
use Rattle.std.proofs.Common.{List, map, ap, sym, ◌∙◌}
use Rattle.dm_meaning.specs.Expressions.{call_step, called, value_of}
use Rattle.dm_meaning.specs.Programs.{definition_of}
use Rattle.dm_meaning.specs.Values as values
use Rattle.dm_operate.specs.Evaluations.{view_of_operand}
use Rattle.dm_program.specs.Sources.{meant}
use Rattle.dm_expression.specs.Taken.{results_of}
use Rattle.dm_state.specs.Standing.{world_of}
use Rattle.dm_move.specs.Steps.{scene_with}
use Rattle.dm_move.proofs.CallLemmas.{named-core}
use Rattle.dm_move.proofs.calls.call.Goals as goal

pub returns-in_ok-step-in-Some-clause-step : goal.returns-in_ok-step-in-Some-clause-step
returns-in_ok-step-in-Some-clause-step c = λ statics objects kind place locks.
    let source = c.args.program.now in
    let table = source.table in
    let scene = scene_with source statics objects in
    let world = world_of table c.args.blocks.now c.args.streams.now in
    let given = map (λ a. value_of a.result) (map (view_of_operand table) (results_of c.args.operands.now)) in
    c.in_ok-step-in-Some.ensures.step statics objects kind place locks
    ∙ (ap (λ (all : List values.Value). called scene world kind place all c.in-Some.number (definition_of (meant source) c.in-Some.number)) (c.in_ok-arguments-in-Some.ensures table)
    ∙ ap (call_step scene world kind place given) (c.in-Some.ensures table ∙ sym (named-core table c.args.function.now)))

pub returns-in-None-clause-step : goal.returns-in-None-clause-step
returns-in-None-clause-step c = λ statics objects kind place locks.
    let source = c.args.program.now in
    let table = source.table in
    let given = map (λ a. value_of a.result) (map (view_of_operand table) (results_of c.args.operands.now)) in
    ap (call_step (scene_with source statics objects) (world_of table c.args.blocks.now c.args.streams.now) kind place given) (c.in-None.ensures table ∙ sym (named-core table c.args.function.now))
