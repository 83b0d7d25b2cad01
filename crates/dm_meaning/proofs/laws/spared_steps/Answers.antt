use Rattle.dm_meaning.proofs.SpareStateLemmas.{spared_steps}
use Rattle.dm_meaning.proofs.laws.spared_steps.Goals as goal

pub returns : goal.returns
returns c = spared_steps
