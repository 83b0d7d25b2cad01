use Rattle.dm_meaning.proofs.MoveLemmas.{move_lifts}
use Rattle.dm_meaning.proofs.laws.inner_steps.Goals as goal

pub returns : goal.returns
returns c = move_lifts
