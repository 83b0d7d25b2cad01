use Rattle.dm_sound.proofs.FirstLemmas.{unset_has, zero_has}
use Rattle.dm_sound.proofs.laws.first_values_have_their_types.Goals as goal

pub returns : goal.returns
returns c program sound type = (unset_has program sound type, zero_has program sound type)
