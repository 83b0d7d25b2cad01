use Rattle.dm_central.proofs.NewNamesLemmas.{new_names}
use Rattle.dm_central.proofs.laws.new_programs_only_name.Goals as goal

pub returns : goal.returns
returns c = new_names
