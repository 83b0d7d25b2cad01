-- What the steps leave says what the run has come to, and a run by choices is one of the machine's.
use Rattle.std.proofs.Common.{◌≡◌, Some, option_map}
use Rattle.std.proofs.lemmas.Result.{IfOk-weaker}
use Rattle.dm_program.specs.Sources.{meant}
use Rattle.dm_exec.specs.declared.outcome.Outcome.{Outcome}
use Rattle.dm_exec.specs.Outcomes.{outcome_seen, IsRun}
use Rattle.dm_exec.specs.Shown.{shown}
use Rattle.dm_exec.proofs.RunLemmas.{all-bytes, run-outcome}
use Rattle.dm_exec.proofs.run.run_for.Goals as goal

pub returns : goal.returns
returns c =
    let table = c.args.program.now.table in
    let program = meant c.args.program.now in
    let first = shown table c.in_ok-state.state in
    let last = shown table c.take_steps.new.state in
    IfOk-weaker c.outcome_of.result (λ (outcome : Outcome). option_map outcome_seen last ≡ Some outcome) (IsRun program c.args.order c.args.n c.args.input.now)
    (λ outcome is. run-outcome c.chosen_runs.ensures program c.args.order c.args.n c.args.input.now first last outcome (all-bytes c.args.input.now c.type_inv.input) c.in_ok-state.ensures.begins c.in_ok-take_steps.ensures is) (c.outcome_of.ensures table)
