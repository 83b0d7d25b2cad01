use Rattle.dm_safe.proofs.SafeStateLemmas.{always_safe}
use Rattle.dm_safe.proofs.laws.safe_expressions_always_come.Goals as goal

pub returns : goal.returns
returns c = always_safe
