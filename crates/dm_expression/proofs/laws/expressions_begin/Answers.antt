use Rattle.dm_expression.proofs.StandLemmas.{begins}
use Rattle.dm_expression.proofs.laws.expressions_begin.Goals as goal

pub returns : goal.returns
returns g c = begins
