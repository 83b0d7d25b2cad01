use Rattle.dm_defined.proofs.MadeLemmas.{unit_made}
use Rattle.dm_defined.proofs.laws.definitions_are_made.Goals as goal

pub returns : goal.returns
returns c files unit old new pp is = unit_made files unit old new pp is
