use Rattle.dm_sound.proofs.FillLemmas.{declares_fill}
use Rattle.dm_sound.proofs.StepLemmas.{step_typed}
use Rattle.dm_sound.proofs.laws.steps_keep_states_typed.Goals as goal

pub returns : goal.returns
returns c program state other sound typed step = step_typed program sound (declares_fill program sound.scope.table sound.scope.proper) state other typed step
