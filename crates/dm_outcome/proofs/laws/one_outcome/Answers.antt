use Rattle.dm_outcome.proofs.OutcomeLemmas.{one-outcome}
use Rattle.dm_outcome.proofs.laws.one_outcome.Goals as goal

pub returns : goal.returns
returns c tokens externals one other first second = one-outcome tokens externals one other first second
