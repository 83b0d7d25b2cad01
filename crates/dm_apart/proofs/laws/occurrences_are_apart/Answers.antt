use Rattle.dm_apart.proofs.RunLemmas.{runs_apart}
use Rattle.dm_apart.proofs.laws.occurrences_are_apart.Goals as goal

pub returns : goal.returns
returns c pp tokens file hash = runs_apart pp tokens file hash
