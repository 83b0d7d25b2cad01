use Rattle.dm_central.proofs.ArgumentStepLemmas.{argument_step}
use Rattle.dm_central.proofs.laws.argument_steps.Goals as goal

pub returns : goal.returns
returns c = argument_step
