use Rattle.dm_sound.proofs.ExcuseLemmas.{step_excused}
use Rattle.dm_sound.proofs.laws.typed_steps_are_never_ill.Goals as goal

pub returns : goal.returns
returns c program state other sound typed step = step_excused program sound state other typed step
