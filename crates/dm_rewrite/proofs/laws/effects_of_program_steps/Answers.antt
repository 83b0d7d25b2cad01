use Rattle.dm_rewrite.proofs.StepEffectLemmas.{step_holds}
use Rattle.dm_rewrite.proofs.laws.effects_of_program_steps.Goals as goal

pub returns : goal.returns
returns c = step_holds
