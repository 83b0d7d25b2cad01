-- The step of a node that waits so.
use Rattle.std.proofs.Common.{◌≡◌, Bool, List, map, subst, ◌∙◌}
use Rattle.dm_token.specs.declared.place.Place.{Place}
use Rattle.dm_type.specs.Tables.{Table, type_of}
use Rattle.dm_tree.specs.declared.tree.Core.{out-Core}
use Rattle.dm_meaning.specs.Expressions.{by_truth}
use Rattle.dm_meaning.specs.Operations.{World, of_value, truth_in}
use Rattle.dm_meaning.specs.Running.{done}
use Rattle.dm_meaning.specs.Values as values
use Rattle.dm_memory.specs.Truths.{view_of_truth}
use Rattle.dm_expression.specs.Taken.{results_of}
use Rattle.dm_state.specs.Standing.{world_of}
use Rattle.dm_value.specs.Places.{view_of_at}
use Rattle.dm_move.specs.Steps.{locks_all, view_of_step}
use Rattle.dm_move.proofs.FormLemmas.{step-evaluates, step-truth, step-value}
use Rattle.dm_move.proofs.nodes.take_step.Goals as goal

pub returns-in_ok-step-in-Evaluates-clause-step : goal.returns-in_ok-step-in-Evaluates-clause-step
returns-in_ok-step-in-Evaluates-clause-step c =
    let source = c.args.program.now in
    step-evaluates source c.args.statics.now c.args.objects.now (map view_of_at c.args.locks.now) c.args.node (results_of c.args.operands.now)
    (world_of source.table c.args.blocks.now c.args.streams.now) (world_of source.table c.evaluate.new.blocks c.evaluate.new.streams) c.in_ok-step-in-Evaluates.step c.in-Evaluates.is
    c.in_ok-step-in-Evaluates.ensures.step

pub returns-in-GivesTruth-clause-step : goal.returns-in-GivesTruth-clause-step
returns-in-GivesTruth-clause-step c =
    let source = c.args.program.now in
    let table = source.table in
    let world = world_of table c.args.blocks.now c.args.streams.now in
    let node = c.args.node.node.now in
    let kind = (out-Core node).kind in
    let place = (out-Core node).place in
    let step = c.as_truth.result in
    let truth = view_of_truth c.tested.result in
    let is =
    subst (λ (t : Table). (place : Place) (locks : List values.At) (world : World) → view_of_step t (type_of t kind) place locks world step
    ≡ by_truth world place truth (λ truth. done (type_of t kind) (of_value (truth_in (type_of t kind) truth)) locks)) c.layout.ensures c.as_truth.ensures.step in
    step-truth source c.args.statics.now c.args.objects.now (map view_of_at c.args.locks.now) c.args.node (results_of c.args.operands.now) world world step c.in-GivesTruth.is
    (λ own. is place (locks_all own) world ∙ c.tested.ensures table world place (λ (truth : Bool). done (type_of table kind) (of_value (truth_in (type_of table kind) truth)) (locks_all own)))

pub returns-in-GivesTruth-clause-fits : goal.returns-in-GivesTruth-clause-fits
returns-in-GivesTruth-clause-fits c = c.as_truth.ensures.fits c.args.program.now

pub returns-in_ok-step-in-GivesValue-clause-step : goal.returns-in_ok-step-in-GivesValue-clause-step
returns-in_ok-step-in-GivesValue-clause-step c =
    let source = c.args.program.now in
    let table = source.table in
    let world = world_of table c.args.blocks.now c.args.streams.now in
    let node = c.args.node.node.now in
    step-value source c.args.statics.now c.args.objects.now (map view_of_at c.args.locks.now) c.args.node (results_of c.args.operands.now) world world c.in_ok-step-in-GivesValue.step c.in-GivesValue.is
    (λ own. c.in_ok-step-in-GivesValue.ensures.step table (type_of table (out-Core node).kind) (out-Core node).place (locks_all own) world)

pub returns-in_ok-step-in-GivesValue-clause-fits : goal.returns-in_ok-step-in-GivesValue-clause-fits
returns-in_ok-step-in-GivesValue-clause-fits c = c.in_ok-step-in-GivesValue.ensures.fits c.args.program.now
