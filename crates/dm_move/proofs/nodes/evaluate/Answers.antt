-- The step of each form.
use Rattle.std.proofs.Common.{◌≡◌, Bool, List, map, pos, refl, sym, ap, subst, ◌∙◌}
use Rattle.dm_token.specs.declared.place.Place.{Place}
use Rattle.dm_type.specs.CTypes.{CType}
use Rattle.dm_type.specs.Layouts.{size_of}
use Rattle.dm_type.specs.Tables.{Table, IsId, type_of}
use Rattle.dm_tree.specs.declared.tree.Core.{Core, out-Core}
use Rattle.dm_tree.specs.Trees.{label_of}
use Rattle.dm_tree.specs.Views.{view}
use Rattle.dm_tree.proofs.ViewLemmas.{view-core}
use Rattle.dm_meaning.specs.Expressions.{as_move, both_chosen, by_truth, either_chosen, nth_run, operand_chosen}
use Rattle.dm_meaning.specs.Operations as operations
use Rattle.dm_meaning.specs.Operations.{Scene, Truth, World, designated, enumerator_number, number_alone, object_named}
use Rattle.dm_meaning.specs.Programs.{or_zero}
use Rattle.dm_meaning.specs.Running.{Run, Runs, begun}
use Rattle.dm_meaning.specs.Values as values
use Rattle.dm_memory.specs.Blocks.{view_of_blocks}
use Rattle.dm_memory.specs.Scenes.{Beside, scene_in, world_in}
use Rattle.dm_memory.specs.Truths.{view_of_truth}
use Rattle.dm_operate.specs.Evaluations.{view_of_did, view_of_operand}
use Rattle.dm_program.specs.Sources.{meant}
use Rattle.dm_expression.specs.Taken.{results_of}
use Rattle.dm_state.specs.Standing.{world_of}
use Rattle.dm_value.specs.Places.{view_of_at}
use Rattle.dm_move.specs.declared.step.Step.{Step}
use Rattle.dm_move.specs.Steps.{locks_all, scene_with, view_of_step}
use Rattle.dm_move.proofs.FormLemmas.{enumerator-named, few-operands, fits-both, fits-choose, fits-comma, fits-either, known-measures, named-operated, object-named, parts-of, second-both, second-choose, second-either, step-both, step-call, step-choose, step-comma, step-either, step-measures, step-operated, third-choose}
use Rattle.dm_move.proofs.SettleLemmas.{known-kind}
use Rattle.dm_move.proofs.nodes.evaluate.Goals as goal

-- what a truth chooses, where the second operand is this one
abbrev ChoosesAt : Table → Core → Core → Truth → (CType → Place → Runs → Bool → Run) → Step → Type 0
ChoosesAt table node second truth choose step = (place : Place) (locks : List values.At) (world : World) (parts : Runs) → nth_run 1 parts ≡ begun (view table second)
    → view_of_step table (type_of table (out-Core node).kind) place locks world step ≡ by_truth world place truth (choose (type_of table (out-Core node).kind) place parts)

pub size-requires-clause-measured : goal.size-requires-clause-measured
size-requires-clause-measured c =
    let table = c.args.program.now.table in
    let tree = c.in-Measures.tree.now in
    subst (λ (t : Table). IsId t (out-Core tree).kind) (sym c.layout-layout.ensures)
    (known-kind table tree (known-measures _ c.args.node.now tree (c.in-Measures.ensures table) c.requires.node.0))

pub operated-requires-clause-names : goal.operated-requires-clause-names
operated-requires-clause-names c =
    named-operated c.layout-layout.result.now c.args.node.now (c.in-Operates.ensures c.layout-layout.result.now)

pub returns-in-Both-clause-step : goal.returns-in-Both-clause-step
returns-in-Both-clause-step c = λ own are.
    let source = c.args.program.now in
    let table = source.table in
    let scene = scene_with source c.args.statics.now c.args.objects.now in
    let world = world_of table c.args.blocks.now c.args.streams.now in
    let held = map view_of_at c.args.locks.now in
    let node = c.args.node.now in
    let kind = type_of table (out-Core node).kind in
    let place = (out-Core node).place in
    let form = (out-Core node).form in
    let results = results_of c.args.operands.now in
    let a = c.in-Both.field-0.now in
    let b = c.in-Both.second.now in
    let is = c.in-Both.ensures table in
    let step = c.both.result in
    let truth = view_of_truth c.tested.result in
    let chooses = subst (λ (t : Table). ChoosesAt t node b truth both_chosen step) c.layout-layout.ensures c.both.ensures.step in
    let parts = parts-of table scene world held kind place results own form in
    chooses place (locks_all own) world parts (second-both table scene world held kind place results own form a b is are)
    ∙ (c.tested.ensures table world place (both_chosen kind place parts) ∙ step-both table scene world held kind place results own form a b is are)

pub returns-in-Both-clause-fits : goal.returns-in-Both-clause-fits
returns-in-Both-clause-fits c =
    let source = c.args.program.now in
    c.both.ensures.fits source (fits-both source.table c.args.node.now c.requires.node c.in-Both.field-0.now c.in-Both.second.now (c.in-Both.ensures source.table))

pub returns-in-Either-clause-step : goal.returns-in-Either-clause-step
returns-in-Either-clause-step c = λ own are.
    let source = c.args.program.now in
    let table = source.table in
    let scene = scene_with source c.args.statics.now c.args.objects.now in
    let world = world_of table c.args.blocks.now c.args.streams.now in
    let held = map view_of_at c.args.locks.now in
    let node = c.args.node.now in
    let kind = type_of table (out-Core node).kind in
    let place = (out-Core node).place in
    let form = (out-Core node).form in
    let results = results_of c.args.operands.now in
    let a = c.in-Either.field-0.now in
    let b = c.in-Either.second.now in
    let is = c.in-Either.ensures table in
    let step = c.either.result in
    let truth = view_of_truth c.tested-in-Either.result in
    let chooses = subst (λ (t : Table). ChoosesAt t node b truth either_chosen step) c.layout-layout.ensures c.either.ensures.step in
    let parts = parts-of table scene world held kind place results own form in
    chooses place (locks_all own) world parts (second-either table scene world held kind place results own form a b is are)
    ∙ (c.tested-in-Either.ensures table world place (either_chosen kind place parts) ∙ step-either table scene world held kind place results own form a b is are)

pub returns-in-Either-clause-fits : goal.returns-in-Either-clause-fits
returns-in-Either-clause-fits c =
    let source = c.args.program.now in
    c.either.ensures.fits source (fits-either source.table c.args.node.now c.requires.node c.in-Either.field-0.now c.in-Either.second.now (c.in-Either.ensures source.table))

pub returns-in-Choose-clause-step : goal.returns-in-Choose-clause-step
returns-in-Choose-clause-step c = λ own are.
    let source = c.args.program.now in
    let table = source.table in
    let scene = scene_with source c.args.statics.now c.args.objects.now in
    let world = world_of table c.args.blocks.now c.args.streams.now in
    let held = map view_of_at c.args.locks.now in
    let node = c.args.node.now in
    let kind = type_of table (out-Core node).kind in
    let place = (out-Core node).place in
    let form = (out-Core node).form in
    let results = results_of c.args.operands.now in
    let a = c.in-Choose.field-0.now in
    let b = c.in-Choose.second.now in
    let third = c.in-Choose.third.now in
    let is = c.in-Choose.ensures table in
    let parts = parts-of table scene world held kind place results own form in
    c.choice.ensures.step table (out-Core node).kind place (locks_all own) world parts (second-choose table scene world held kind place results own form a b third is are)
    (third-choose table scene world held kind place results own form a b third is are)
    ∙ (c.tested-in-Choose.ensures table world place (operand_chosen kind place parts) ∙ step-choose table scene world held kind place results own form a b third is are)

pub returns-in-Choose-clause-fits : goal.returns-in-Choose-clause-fits
returns-in-Choose-clause-fits c =
    let source = c.args.program.now in
    let fits = fits-choose source.table c.args.node.now c.requires.node c.in-Choose.field-0.now c.in-Choose.second.now c.in-Choose.third.now (c.in-Choose.ensures source.table) in
    c.choice.ensures.fits source fits.0 fits.1

pub returns-in-Comma-clause-step : goal.returns-in-Comma-clause-step
returns-in-Comma-clause-step c = λ own are.
    let source = c.args.program.now in
    let table = source.table in
    let scene = scene_with source c.args.statics.now c.args.objects.now in
    let world = world_of table c.args.blocks.now c.args.streams.now in
    let held = map view_of_at c.args.locks.now in
    let node = c.args.node.now in
    let kind = type_of table (out-Core node).kind in
    let place = (out-Core node).place in
    let form = (out-Core node).form in
    let results = results_of c.args.operands.now in
    step-comma table scene world held kind place results own form c.in-Comma.field-0.now c.in-Comma.second.now (c.in-Comma.ensures table) are

pub returns-in-Comma-clause-fits : goal.returns-in-Comma-clause-fits
returns-in-Comma-clause-fits c =
    let table = c.args.program.now.table in
    fits-comma table c.args.node.now c.requires.node c.in-Comma.field-0.now c.in-Comma.second.now (c.in-Comma.ensures table)

pub returns-in_ok-step-in-Call-clause-step : goal.returns-in_ok-step-in-Call-clause-step
returns-in_ok-step-in-Call-clause-step c = λ own are.
    let source = c.args.program.now in
    let table = source.table in
    let scene = scene_with source c.args.statics.now c.args.objects.now in
    let world = world_of table c.args.blocks.now c.args.streams.now in
    let held = map view_of_at c.args.locks.now in
    let node = c.args.node.now in
    let kind = type_of table (out-Core node).kind in
    let place = (out-Core node).place in
    let form = (out-Core node).form in
    let results = results_of c.args.operands.now in
    c.in_ok-step-in-Call.ensures.step c.args.statics.now c.args.objects.now kind place (locks_all own)
    ∙ step-call table scene world held kind place results own form c.in-Call.function.now c.in-Call.field-1.now (c.in-Call.ensures table) are

pub returns-in-Measures-clause-step : goal.returns-in-Measures-clause-step
returns-in-Measures-clause-step c = λ own are.
    let source = c.args.program.now in
    let table = source.table in
    let scene = scene_with source c.args.statics.now c.args.objects.now in
    let world = world_of table c.args.blocks.now c.args.streams.now in
    let held = map view_of_at c.args.locks.now in
    let node = c.args.node.now in
    let kind = type_of table (out-Core node).kind in
    let place = (out-Core node).place in
    let form = (out-Core node).form in
    let results = results_of c.args.operands.now in
    let measured = (out-Core c.in-Measures.tree.now).kind in
    let did =
    subst (λ (t : Table). view_of_did world c.size.result ≡ number_alone world (type_of t (out-Core node).kind) (pos (or_zero (size_of t (type_of t measured))))) c.layout-layout.ensures
    (c.size.ensures world) in
    c.of_did.ensures.step table kind place (locks_all own) world
    ∙ (ap (as_move kind place (locks_all own)) did ∙ step-measures table scene world held kind place results own form c.in-Measures.tree.now (c.in-Measures.ensures table) are refl)

pub returns-in-Measures-clause-fits : goal.returns-in-Measures-clause-fits
returns-in-Measures-clause-fits c = c.of_did.ensures.fits c.args.program.now

pub returns-in-Enumerator-clause-step : goal.returns-in-Enumerator-clause-step
returns-in-Enumerator-clause-step c = λ own are.
    let source = c.args.program.now in
    let table = source.table in
    let scene = scene_with source c.args.statics.now c.args.objects.now in
    let world = world_of table c.args.blocks.now c.args.streams.now in
    let held = map view_of_at c.args.locks.now in
    let node = c.args.node.now in
    let kind = type_of table (out-Core node).kind in
    let place = (out-Core node).place in
    let form = (out-Core node).form in
    let results = results_of c.args.operands.now in
    c.of_did-in-Enumerator.ensures.step table kind place (locks_all own) world
    ∙ (ap (as_move kind place (locks_all own)) (c.enumerator.ensures world) ∙ enumerator-named table scene world held kind place results own form c.in-Enumerator.declared are (c.in-Enumerator.ensures table))

pub returns-in-Enumerator-clause-fits : goal.returns-in-Enumerator-clause-fits
returns-in-Enumerator-clause-fits c = c.of_did-in-Enumerator.ensures.fits c.args.program.now

pub returns-in-Object-clause-step : goal.returns-in-Object-clause-step
returns-in-Object-clause-step c = λ own are.
    let source = c.args.program.now in
    let table = source.table in
    let scene = scene_with source c.args.statics.now c.args.objects.now in
    let world = world_of table c.args.blocks.now c.args.streams.now in
    let held = map view_of_at c.args.locks.now in
    let node = c.args.node.now in
    let kind = type_of table (out-Core node).kind in
    let place = (out-Core node).place in
    let form = (out-Core node).form in
    let results = results_of c.args.operands.now in
    let did = c.designated.ensures world ∙ ap (designated world) c.named.ensures in
    c.of_did-in-Object.ensures.step table kind place (locks_all own) world
    ∙ (ap (as_move kind place (locks_all own)) did ∙ object-named table scene world held kind place results own form c.in-Object.declared are (c.in-Object.ensures table))

pub returns-in-Object-clause-fits : goal.returns-in-Object-clause-fits
returns-in-Object-clause-fits c = c.of_did-in-Object.ensures.fits c.args.program.now

pub returns-in_ok-step-in-Operates-clause-step : goal.returns-in_ok-step-in-Operates-clause-step
returns-in_ok-step-in-Operates-clause-step c = λ own are.
    let source = c.args.program.now in
    let table = source.table in
    let scene = scene_with source c.args.statics.now c.args.objects.now in
    let world = world_of table c.args.blocks.now c.args.streams.now in
    let held = map view_of_at c.args.locks.now in
    let node = c.args.node.now in
    let kind = type_of table (out-Core node).kind in
    let place = (out-Core node).place in
    let form = (out-Core node).form in
    let results = results_of c.args.operands.now in
    let is = c.in-Operates.ensures table in
    let all = map (view_of_operand table) results in
    let beside : Beside = record {
      declared = (meant source).declared;
      functions = (meant source).functions;
      statics = (meant source).statics;
      objects = scene.objects;
      input = world.input;
      output = world.output;
    } in
    let step = c.in_ok-step-in-Operates.step in
    let operates =
    subst (λ (t : Table). view_of_step t (type_of t (out-Core node).kind) place (locks_all own) (world_in (view_of_blocks t c.operated.new.blocks) beside) step
    ≡ as_move (type_of t (out-Core node).kind) place (locks_all own) (operations.operate (scene_in t beside) (world_in (view_of_blocks t c.args.blocks.now) beside) held (label_of (view t node))
    (type_of t (out-Core node).kind) (map (view_of_operand t) results))) c.layout-layout.ensures
    (c.in_ok-step-in-Operates.ensures.step beside place (locks_all own) (few-operands table node results own c.requires.node is are)) in
    operates
    ∙ (ap (λ tree. as_move kind place (locks_all own) (operations.operate scene world held (label_of tree) kind all)) (view-core table node)
    ∙ step-operated table scene world held kind place results own form is.operates are)

pub returns-in_ok-step-in-Operates-clause-keeps : goal.returns-in_ok-step-in-Operates-clause-keeps
returns-in_ok-step-in-Operates-clause-keeps c =
    let table = c.args.program.now.table in
    c.in_ok-step-in-Operates.ensures.keeps (world_of table c.args.blocks.now c.args.streams.now) (world_of table c.operated.new.blocks c.args.streams.now) refl

pub returns-in_ok-step-in-Operates-clause-fits : goal.returns-in_ok-step-in-Operates-clause-fits
returns-in_ok-step-in-Operates-clause-fits c = c.in_ok-step-in-Operates.ensures.fits c.args.program.now
