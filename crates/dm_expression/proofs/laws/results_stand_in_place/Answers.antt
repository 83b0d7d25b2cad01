use Rattle.dm_expression.proofs.LeaveLemmas.{result-left}
use Rattle.dm_expression.proofs.laws.results_stand_in_place.Goals as goal

pub returns : goal.returns
returns g c see types choice old new locks run all stands taken = result-left see types choice old new locks run all stands taken
