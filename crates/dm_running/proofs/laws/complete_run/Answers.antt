-- A unit comes to one thing.
use Rattle.dm_running.proofs.CompleteRuns.{complete}
use Rattle.dm_running.proofs.laws.complete_run.Goals as goal

pub returns : goal.returns
returns c = complete c.one_reading.ensures
