use Rattle.dm_told.proofs.UnitLemmas.{unit_told}
use Rattle.dm_told.proofs.laws.places_are_told.Goals as goal

pub returns : goal.returns
returns c types one typed laid = unit_told types one typed laid
