use Rattle.dm_meaning.proofs.StepLemmas.{has_step}
use Rattle.dm_meaning.proofs.laws.unended_steps.Goals as goal

pub returns : goal.returns
returns c = has_step
