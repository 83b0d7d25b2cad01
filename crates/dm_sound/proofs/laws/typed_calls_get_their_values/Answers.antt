use Rattle.dm_sound.proofs.ExcuseLemmas.{hands_back_values}
use Rattle.dm_sound.proofs.laws.typed_calls_get_their_values.Goals as goal

pub returns : goal.returns
returns c program state typed = hands_back_values program state typed
