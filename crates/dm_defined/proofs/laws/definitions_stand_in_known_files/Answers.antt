use Rattle.dm_defined.proofs.MadeLemmas.{unit_among}
use Rattle.dm_defined.proofs.laws.definitions_stand_in_known_files.Goals as goal

pub returns : goal.returns
returns c files unit old new pp is = unit_among files unit old new pp is
