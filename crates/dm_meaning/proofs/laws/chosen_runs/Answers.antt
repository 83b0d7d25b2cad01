use Rattle.dm_meaning.proofs.OrderLemmas.{chosen_runs}
use Rattle.dm_meaning.proofs.laws.chosen_runs.Goals as goal

pub returns : goal.returns
returns c = chosen_runs
