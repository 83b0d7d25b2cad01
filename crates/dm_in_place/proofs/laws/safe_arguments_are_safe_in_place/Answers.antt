use Rattle.dm_in_place.proofs.FoundLemmas.{found_safe}
use Rattle.dm_in_place.proofs.laws.safe_arguments_are_safe_in_place.Goals as goal

pub returns : goal.returns
returns c = found_safe
