-- What shows is what the step left.
use Rattle.std.proofs.Common.{Some, ap}
use Rattle.dm_program.specs.Sources.{meant}
use Rattle.dm_state.specs.Views.{view_of_running}
use Rattle.dm_exec.specs.Runs.{next_state}
use Rattle.dm_exec.specs.Shown.{running_in, Seen}
use Rattle.dm_exec.proofs.LeavingLemmas.{left-fits, left-seen, left-turn}
use Rattle.dm_exec.proofs.steps.next_step.Goals as goal

pub returns : goal.returns
returns c =
    let table = c.args.program.now.table in
    let old = running_in c.args.state.now.going in
    let next = next_state (meant c.args.program.now) c.args.choice (view_of_running table old) in
    let left = c.in_ok-turn.ensures.0 in
    let turn = c.in_ok-turn.turn in
    let new = running_in c.take_step.new.going in
    record {
      step = (ap (λ (seen : Seen). Some seen) (left-seen table turn new next left), left-turn table turn new next left);
      fits = (left-fits table turn new next left, c.in_ok-turn.ensures.1);
    }
