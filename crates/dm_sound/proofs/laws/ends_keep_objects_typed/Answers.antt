use Rattle.dm_meaning.specs.Programs.{layout}
use Rattle.dm_sound.proofs.FirstLemmas.{typed_killed}
use Rattle.dm_sound.proofs.laws.ends_keep_objects_typed.Goals as goal

pub returns : goal.returns
returns c program numbers memory typed = typed_killed (layout program) numbers memory typed
