use Rattle.dm_meaning.proofs.MoveLemmas.{locks_lift}
use Rattle.dm_meaning.proofs.laws.inner_locks.Goals as goal

pub returns : goal.returns
returns c = locks_lift
