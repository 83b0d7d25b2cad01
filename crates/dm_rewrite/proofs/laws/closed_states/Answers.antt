use Rattle.dm_rewrite.proofs.ClosedStateLemmas.{closed_step}
use Rattle.dm_rewrite.proofs.laws.closed_states.Goals as goal

pub returns : goal.returns
returns c = closed_step
