use Rattle.dm_sound.proofs.RunningLemmas.{run_typed}
use Rattle.dm_sound.proofs.laws.typed_programs_run_typed.Goals as goal

pub returns : goal.returns
returns c = run_typed
