-- The step is that of what comes next.
use Rattle.std.proofs.Common.{◌∷◌, ap, sym, ◌∙◌, subst}
use Rattle.dm_program.specs.Sources.{meant}
use Rattle.dm_meaning.specs.States.{State}
use Rattle.dm_frame.specs.Frames.{tasks_of}
use Rattle.dm_state.specs.declared.full.Full.TheVariants as variant
use Rattle.dm_state.specs.declared.full.Ongoing.{Ongoing}
use Rattle.dm_state.specs.declared.running.Running.{Running}
use Rattle.dm_state.specs.Fits.{OngoingFits, RunningFits}
use Rattle.dm_state.specs.Turns.{state_with, IsLeft}
use Rattle.dm_state.specs.Views.{tasks_with, view_of_full}
use Rattle.dm_exec.specs.declared.due.Due.{Due}
use Rattle.dm_exec.specs.Due.{chosen_step, IsDue, TakesStep}
use Rattle.dm_exec.specs.Shown.{HasLeft}
use Rattle.dm_exec.proofs.BesideLemmas.{left-alone}
use Rattle.dm_exec.proofs.DueLemmas.{closes, due-fits, due-stepped, unfolded-none, unfolded-takes}
use Rattle.dm_exec.proofs.taking.go_to.Goals as goal

pub evaluate-requires-clause-none : goal.evaluate-requires-clause-none
evaluate-requires-clause-none c = ap (λ (running : Running). running.full) c.hold.ensures.running ∙ c.in_ok-ongoing.ensures.none

pub evaluate-requires-clause-fits : goal.evaluate-requires-clause-fits
evaluate-requires-clause-fits c =
    let table = c.args.program.now.table in
    let old = c.args.going.now.running in
    subst (RunningFits table) (sym c.hold.ensures.running)
    (due-fits table (tasks_with table old.full old.frame) c.in_ok-ongoing.field-0 old c.next_due.new.running c.in_ok-ongoing.ensures c.requires.fits)

pub evaluate-requires-clause-ongoing : goal.evaluate-requires-clause-ongoing
evaluate-requires-clause-ongoing c =
    let table = c.args.program.now.table in
    let old = c.args.going.now.running in
    let found = subst (λ (due : Due). IsDue table (tasks_with table old.full old.frame) due old c.next_due.new.running) c.in-Evaluates.is c.in_ok-ongoing.ensures in
    subst (OngoingFits table) (sym c.hold.ensures.ongoing) found.fits.0

pub take-requires-clause-fits : goal.take-requires-clause-fits
take-requires-clause-fits c =
    let table = c.args.program.now.table in
    let old = c.args.going.now.running in
    due-fits table (tasks_with table old.full old.frame) c.in_ok-ongoing.field-0 old c.next_due.new.running c.in_ok-ongoing.ensures c.requires.fits

pub take-requires-clause-takes : goal.take-requires-clause-takes
take-requires-clause-takes c =
    let table = c.args.program.now.table in
    let old = c.args.going.now.running in
    let tasks = tasks_with table old.full old.frame in
    let found = subst (λ (due : Due). IsDue table tasks due old c.next_due.new.running) c.in-Takes.is c.in_ok-ongoing.ensures in
    subst TakesStep found.left (unfolded-takes tasks)

pub returns-in_ok-turn-in-Evaluates : goal.returns-in_ok-turn-in-Evaluates
returns-in_ok-turn-in-Evaluates c =
    let table = c.args.program.now.table in
    let program = meant c.args.program.now in
    let old = c.args.going.now.running in
    let tasks = tasks_with table old.full old.frame in
    let middle = c.next_due.new.running in
    let turn = c.in_ok-turn-in-Evaluates.turn in
    let new = c.evaluate.new.going in
    let found = subst (λ (due : Due). IsDue table tasks due old middle) c.in-Evaluates.is c.in_ok-ongoing.ensures in
    subst (λ (state : State). HasLeft table turn new state) (sym (due-stepped table program c.args.choice _ old middle found))
    (subst (λ (running : Running). HasLeft table turn new (chosen_step program c.args.choice (state_with table tasks running) (view_of_full table (variant.Goes c.in-Evaluates.ongoing) ∷ tasks_of table running.frame))) c.hold.ensures.running
    (subst (λ (one : Ongoing). HasLeft table turn new (chosen_step program c.args.choice (state_with table tasks c.hold.new.going.running) (view_of_full table (variant.Goes one) ∷ tasks_of table c.hold.new.going.running.frame))) c.hold.ensures.ongoing
    (c.in_ok-turn-in-Evaluates.ensures tasks)))

pub returns-in_ok-turn-in-Takes : goal.returns-in_ok-turn-in-Takes
returns-in_ok-turn-in-Takes c =
    let table = c.args.program.now.table in
    let old = c.args.going.now.running in
    let tasks = tasks_with table old.full old.frame in
    let middle = c.next_due.new.running in
    let found = subst (λ (due : Due). IsDue table tasks due old middle) c.in-Takes.is c.in_ok-ongoing.ensures in
    left-alone table c.in_ok-turn-in-Takes.turn (record c.args.going.now { running = c.take.new.running }) _ c.requires.goes
    (subst (λ (state : State). IsLeft table c.in_ok-turn-in-Takes.turn c.take.new.running state)
    (sym (due-stepped table (meant c.args.program.now) c.args.choice _ old middle found)) (c.in_ok-turn-in-Takes.ensures tasks c.args.choice))

pub returns-in_ok-turn-in-Closes : goal.returns-in_ok-turn-in-Closes
returns-in_ok-turn-in-Closes c =
    let table = c.args.program.now.table in
    let program = meant c.args.program.now in
    let old = c.args.going.now.running in
    let tasks = tasks_with table old.full old.frame in
    let middle = c.next_due.new.running in
    let found = subst (λ (due : Due). IsDue table tasks due old middle) c.in-Closes.is c.in_ok-ongoing.ensures in
    left-alone table c.in_ok-turn-in-Closes.turn (record c.args.going.now { running = c.close.new.self }) _ c.requires.goes
    (subst (λ (state : State). IsLeft table c.in_ok-turn-in-Closes.turn c.close.new.self state)
    (sym (due-stepped table program c.args.choice _ old middle found ∙ closes table program c.args.choice tasks middle found.none found.fits.0 (unfolded-none tasks found.left)))
    c.in_ok-turn-in-Closes.ensures)
