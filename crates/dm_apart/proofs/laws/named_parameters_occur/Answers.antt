use Rattle.dm_apart.proofs.OccurLemmas.{runs_have}
use Rattle.dm_apart.proofs.laws.named_parameters_occur.Goals as goal

pub returns : goal.returns
returns c pp tokens file hash definition n read named = runs_have pp tokens file hash definition n read named
