use Rattle.dm_initialised.proofs.RunLemmas.{unit_names_set}
use Rattle.dm_initialised.proofs.laws.units_name_what_is_set.Goals as goal

pub returns : goal.returns
returns c = unit_names_set
