use Rattle.dm_sound.proofs.FillLemmas.{declares_fill}
use Rattle.dm_initialised.proofs.StateLemmas.{step_set}
use Rattle.dm_initialised.proofs.laws.steps_keep_objects_set.Goals as goal

pub returns : goal.returns
returns c program needs state other sound settled typed set step = step_set program sound (declares_fill program sound.scope.table sound.scope.proper) needs settled state other typed set step
