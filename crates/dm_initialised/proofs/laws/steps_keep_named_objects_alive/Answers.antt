use Rattle.dm_initialised.proofs.LivingLemmas.{step_lives}
use Rattle.dm_initialised.proofs.laws.steps_keep_named_objects_alive.Goals as goal

pub returns : goal.returns
returns c program state other living step = step_lives program state other living step
