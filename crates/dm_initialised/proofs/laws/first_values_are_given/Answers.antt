use Rattle.dm_initialised.proofs.FirstValueLemmas.{first_values_given}
use Rattle.dm_initialised.proofs.laws.first_values_are_given.Goals as goal

pub returns : goal.returns
returns c = first_values_given
