use Rattle.dm_initialised.proofs.LivingLemmas.{run_lives}
use Rattle.dm_initialised.proofs.laws.named_objects_stay_alive.Goals as goal

pub returns : goal.returns
returns c program input n state run = run_lives program input n state run
