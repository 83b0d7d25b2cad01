-- What the step did stands in the node's place.
use Rattle.std.proofs.Common.{ℕ, List, map, refl, ap, sym, subst, ◌∙◌}
use Rattle.dm_type.specs.Tables.{type_of}
use Rattle.dm_tree.specs.declared.tree.Core.{Core, out-Core}
use Rattle.dm_meaning.specs.Choices.{in_order}
use Rattle.dm_meaning.specs.Expressions.{calls, lifted}
use Rattle.dm_meaning.specs.Operations.{World}
use Rattle.dm_meaning.specs.Running.{filled_in, gives_truth, gives_value, here, hole_in}
use Rattle.dm_meaning.specs.States as states
use Rattle.dm_meaning.specs.Steps.{moved}
use Rattle.dm_program.specs.Functions.{view_of_function}
use Rattle.dm_program.specs.Sources.{Source, meant}
use Rattle.dm_frame.specs.Frames.{tasks_of}
use Rattle.dm_frame.specs.Tasks.{view_of_use}
use Rattle.dm_state.specs.declared.full.Ongoing.{Ongoing}
use Rattle.dm_state.specs.declared.running.Running.{Running}
use Rattle.dm_state.specs.Fits.{LacksCall}
use Rattle.dm_state.specs.Standing.{world_of}
use Rattle.dm_state.specs.Turns.{IsAfter}
use Rattle.dm_state.specs.Views.{hole_in_one}
use Rattle.dm_value.specs.Places.{view_of_at}
use Rattle.dm_value.specs.declared.value.Value.{Value}
use Rattle.dm_value.specs.Views.{view_of_value}
use Rattle.dm_move.specs.declared.step.Step.{Step}
use Rattle.dm_move.specs.Progressing.{IsProgress}
use Rattle.dm_move.specs.Settling.{gap, own_locks, state_before}
use Rattle.dm_move.specs.Steps.{view_of_step, Keeps, StepFits}
use Rattle.dm_move.proofs.SettleLemmas.{known-kind, same-opened, waits-truth, waits-value}
use Rattle.dm_move.proofs.settling.settle.Goals as goal

-- the state to which a step leads
abbrev leads-to : Source → List states.Task → World → Running → Ongoing → Core → ℕ → Step → states.State
leads-to source tasks before running one node locks step =
    let table = source.table in
    let hole = gap table one.expression locks in
    moved (meant source) (in_order before.memory) (state_before table tasks before running) (tasks_of table running.frame) one.place (view_of_use table one.use_of)
    (lifted (filled_in hole) (hole_in hole)
    (view_of_step table (type_of table (out-Core node).kind) (out-Core node).place (map view_of_at (own_locks one.expression locks)) (world_of table running.blocks running.streams) step))

pub call-requires-clause-lacks : goal.call-requires-clause-lacks
call-requires-clause-lacks c =
    let table = c.args.program.now.table in
    subst (LacksCall table (out-Core c.args.node.now).kind) (sym c.replace-waiting.ensures.value)
    (c.in_ok-leave-in-Calls.ensures.lacks table (out-Core c.args.node.now).kind c.requires.lacking c.requires.use_of (known-kind table c.args.node.now c.requires.node.0))

pub returns-in_ok-give-in-Gives : goal.returns-in_ok-give-in-Gives
returns-in_ok-give-in-Gives c = λ tasks before keeps.
    let table = c.args.program.now.table in
    subst (λ (step : Step). IsProgress table c.go_on.result c.args.running.now c.give.new.ongoing (leads-to c.args.program.now tasks before c.args.running.now c.args.ongoing.now c.args.node.now c.args.locks step)) (sym c.in-Gives.is)
    (c.go_on.ensures table (meant c.args.program.now) (in_order before.memory) tasks before c.args.ongoing.now _ c.requires.none c.requires.fits
    (c.in_ok-give-in-Gives.ensures table c.requires.lacking c.requires.use_of (known-kind table c.args.node.now c.requires.node.0)))

pub returns-in_ok-give_unlocked-in-Releases : goal.returns-in_ok-give_unlocked-in-Releases
returns-in_ok-give_unlocked-in-Releases c = λ tasks before keeps.
    let table = c.args.program.now.table in
    subst (λ (step : Step). IsProgress table c.go_on-in-Releases.result c.args.running.now c.give_unlocked.new.ongoing (leads-to c.args.program.now tasks before c.args.running.now c.args.ongoing.now c.args.node.now c.args.locks step)) (sym c.in-Releases.is)
    (c.go_on-in-Releases.ensures table (meant c.args.program.now) (in_order before.memory) tasks before c.args.ongoing.now _ c.requires.none c.requires.fits
    (c.in_ok-give_unlocked-in-Releases.ensures table c.requires.lacking c.requires.use_of (known-kind table c.args.node.now c.requires.node.0)))

pub returns-in_ok-pick-in-Tests : goal.returns-in_ok-pick-in-Tests
returns-in_ok-pick-in-Tests c = λ tasks before keeps.
    let table = c.args.program.now.table in
    let node = c.args.node.now in
    let fits = subst (λ (step : Step). StepFits c.args.program.now step) c.in-Tests.is c.requires.step in
    subst (λ (step : Step). IsProgress table c.go_on-in-Tests.result c.args.running.now c.pick.new.ongoing (leads-to c.args.program.now tasks before c.args.running.now c.args.ongoing.now c.args.node.now c.args.locks step)) (sym c.in-Tests.is)
    (c.go_on-in-Tests.ensures table (meant c.args.program.now) (in_order before.memory) tasks before c.args.ongoing.now _ c.requires.none c.requires.fits
    (c.in_ok-pick-in-Tests.ensures table gives_truth (type_of table (out-Core node).kind) (out-Core node).place c.requires.lacking c.requires.use_of c.requires.node fits refl (waits-truth table node)))

pub returns-in_ok-pick-in-Picks : goal.returns-in_ok-pick-in-Picks
returns-in_ok-pick-in-Picks c = λ tasks before keeps.
    let table = c.args.program.now.table in
    let node = c.args.node.now in
    let fits = subst (λ (step : Step). StepFits c.args.program.now step) c.in-Picks.is c.requires.step in
    subst (λ (step : Step). IsProgress table c.go_on-in-Picks.result c.args.running.now c.pick-in-Picks.new.ongoing (leads-to c.args.program.now tasks before c.args.running.now c.args.ongoing.now c.args.node.now c.args.locks step)) (sym c.in-Picks.is)
    (c.go_on-in-Picks.ensures table (meant c.args.program.now) (in_order before.memory) tasks before c.args.ongoing.now _ c.requires.none c.requires.fits
    (c.in_ok-pick-in-Picks.ensures table gives_value (type_of table (out-Core node).kind) (out-Core node).place c.requires.lacking c.requires.use_of c.requires.node fits refl (waits-value table node)))

pub returns-in_ok-call-in-Calls : goal.returns-in_ok-call-in-Calls
returns-in_ok-call-in-Calls c = λ tasks before keeps.
    let source = c.args.program.now in
    let table = source.table in
    let running = c.args.running.now in
    let fits = subst (λ (step : Step). StepFits source step) c.in-Calls.is c.requires.step in
    let ensured = c.in_ok-call-in-Calls.ensures tasks in
    let is = c.replace-waiting.ensures.value in
    let one = c.args.ongoing.now in
    let hole = gap table one.expression c.args.locks in
    let kind = type_of table (out-Core c.args.node.now).kind in
    let function = c.in-Calls.function in
    let into = λ (all : List Value). moved (meant source) (in_order before.memory) (state_before table tasks before running) (tasks_of table running.frame) one.place (view_of_use table one.use_of)
    (lifted (filled_in hole) (hole_in hole) (calls function.number (map view_of_value all) kind here)) in
    subst (λ (step : Step). IsAfter table c.call.new.self (leads-to source tasks before running one c.args.node.now c.args.locks step)) (sym c.in-Calls.is)
    (record {
      same = ensured.same
          ∙ (same-opened table (meant source) running tasks (tasks_of table running.frame) before one c.replace-waiting.result kind hole function.number
          (map view_of_value c.as_slice.result.now) (view_of_function table function) (subst (λ (step : Step). Keeps before (world_of table running.blocks running.streams) step) c.in-Calls.is keeps)
          (ap (λ (waiting : Ongoing). waiting.place) is ∙ c.in_ok-leave-in-Calls.ensures.place) (ap (λ (waiting : Ongoing). waiting.use_of) is ∙ c.in_ok-leave-in-Calls.ensures.use_of)
          (ap (λ (waiting : Ongoing). hole_in_one table waiting.expression) is ∙ c.in_ok-leave-in-Calls.ensures.hole table c.requires.lacking) fits.0
          ∙ ap into c.as_slice.ensures.value);
      fits = ensured.fits;
    })
