-- What is put of a unit that has a `main` is its run.
use Rattle.std.proofs.Common.{sym, ap, ◌∙◌}
use Rattle.dm_words.specs.Requests.{request_of}
use Rattle.dm_running.specs.Readings.{exceeds}
use Rattle.dm_running.proofs.FinishSteps.{finished_run, reading_runs}
use Rattle.dm_running.proofs.finish.run_reading.Goals as goal

pub returns-in_ok-outcome-in-Some-clause-finished : goal.returns-in_ok-outcome-in-Some-clause-finished
returns-in_ok-outcome-in-Some-clause-finished g c =
    let few = ap exceeds (sym c.items.ensures) ∙ sym c.in_ok-exceeds_limit.ensures ∙ c.if-branch.false in
    let runs = reading_runs (request_of c.args.asked.now) c.args.reading.now c.args.input.now c.in_ok-of.field-0 c.in-Some.program c.in_ok-outcome-in-Some.outcome few c.in-Some.is c.in_ok-of.ensures
    c.in_ok-outcome-in-Some.ensures in
    finished_run (request_of c.args.asked.now) c.args.reading.now c.args.names.now c.args.input.now
    (g.S.Sink.written c.args.out.now) (g.S.Sink.written c.put_run.new.out) (g.S.Sink.faults c.args.out.now) (g.S.Sink.faults c.put_run.new.out)
    c.put_run.result c.in_ok-outcome-in-Some.outcome runs c.put_run.ensures.done c.put_run.ensures.failed c.put_run.ensures.status c.put_run.ensures.err
