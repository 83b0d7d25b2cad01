use Rattle.dm_in_place.proofs.SetLemmas.{set_declared}
use Rattle.dm_in_place.proofs.laws.set_objects_are_declared.Goals as goal

pub returns : goal.returns
returns c = set_declared
