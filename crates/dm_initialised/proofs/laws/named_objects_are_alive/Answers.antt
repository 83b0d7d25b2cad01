use Rattle.dm_initialised.proofs.LivingLemmas.{run_lives, named_alive}
use Rattle.dm_initialised.proofs.laws.named_objects_are_alive.Goals as goal

pub returns : goal.returns
returns c program input n state d m run named = named_alive state (run_lives program input n state run) d m named
