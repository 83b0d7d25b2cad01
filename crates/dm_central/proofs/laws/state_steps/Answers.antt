use Rattle.dm_central.proofs.StateStepLemmas.{step_met}
use Rattle.dm_central.proofs.laws.state_steps.Goals as goal

pub returns : goal.returns
returns c = step_met
