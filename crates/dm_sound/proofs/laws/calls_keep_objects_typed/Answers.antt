use Rattle.dm_sound.proofs.FirstLemmas.{typed_opened}
use Rattle.dm_sound.proofs.laws.calls_keep_objects_typed.Goals as goal

pub returns : goal.returns
returns c = typed_opened
