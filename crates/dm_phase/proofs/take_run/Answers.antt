-- The run is kept.
use Rattle.dm_phase.specs.Reading.{left}
use Rattle.dm_phase.specs.Writing.{written}
use Rattle.dm_phase.proofs.Splices.{keeps_run}
use Rattle.dm_phase.proofs.take_run.Goals as goal

pub returns-clause-text : goal.returns-clause-text
returns-clause-text c =
    keeps_run (written c.args.writer.now) _ (left c.args.reader.now) _ c.args.reader.now.at c.take_run-run.result.now c.take_run-run.ensures.plain c.take_run-run.ensures.text c.in_ok-append.ensures.text
