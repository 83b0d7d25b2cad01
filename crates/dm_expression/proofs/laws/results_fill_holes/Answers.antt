use Rattle.dm_expression.proofs.StandLemmas.{given}
use Rattle.dm_expression.proofs.laws.results_fill_holes.Goals as goal

pub returns : goal.returns
returns g c = given
