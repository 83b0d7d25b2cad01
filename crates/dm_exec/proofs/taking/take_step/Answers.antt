-- The step is that of the full expression that goes on, or of what comes next.
use Rattle.std.proofs.Common.{sym, subst}
use Rattle.dm_program.specs.Sources.{meant}
use Rattle.dm_meaning.specs.States as states
use Rattle.dm_state.specs.declared.running.Running.{Running}
use Rattle.dm_state.specs.Fits.{RunningFits}
use Rattle.dm_state.specs.Views.{tasks_with, view_of_running}
use Rattle.dm_exec.specs.Runs.{next_state}
use Rattle.dm_exec.specs.Shown.{running_in, HasLeft}
use Rattle.dm_exec.proofs.BesideLemmas.{beside-stepped, none-beside, ongoing-fits, rest-fits}
use Rattle.dm_exec.proofs.taking.take_step.Goals as goal

pub evaluate-requires-clause-none : goal.evaluate-requires-clause-none
evaluate-requires-clause-none c = c.requires.apart c.if-going.true

pub evaluate-requires-clause-fits : goal.evaluate-requires-clause-fits
evaluate-requires-clause-fits c = rest-fits c.args.program.now.table c.args.going.now c.if-going.true (c.requires.apart c.if-going.true) c.requires.fits

pub evaluate-requires-clause-ongoing : goal.evaluate-requires-clause-ongoing
evaluate-requires-clause-ongoing c = ongoing-fits c.args.program.now.table c.args.going.now c.if-going.true (c.requires.apart c.if-going.true) c.requires.fits

pub go_to-requires-clause-fits : goal.go_to-requires-clause-fits
go_to-requires-clause-fits c = subst (RunningFits c.args.program.now.table) (sym (none-beside c.args.going.now c.if-going.false)) c.requires.fits

pub returns-in_ok-turn : goal.returns-in_ok-turn
returns-in_ok-turn c =
    let table = c.args.program.now.table in
    let going = c.args.going.now in
    subst (λ (next : states.State). HasLeft table c.in_ok-turn.turn c.evaluate.new.going next)
    (sym (beside-stepped table going c.if-going.true (c.requires.apart c.if-going.true) c.requires.fits (meant c.args.program.now) c.args.choice))
    (c.in_ok-turn.ensures (tasks_with table (running_in going).full going.running.frame))

pub returns-in_ok-turn-2 : goal.returns-in_ok-turn-2
returns-in_ok-turn-2 c =
    let table = c.args.program.now.table in
    subst (λ (running : Running). HasLeft table c.in_ok-turn-2.turn c.go_to.new.going (next_state (meant c.args.program.now) c.args.choice (view_of_running table running)))
    (none-beside c.args.going.now c.if-going.false) c.in_ok-turn-2.ensures
