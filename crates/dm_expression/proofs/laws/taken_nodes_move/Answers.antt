use Rattle.dm_expression.proofs.LeaveLemmas.{move-left}
use Rattle.dm_expression.proofs.laws.taken_nodes_move.Goals as goal

pub returns : goal.returns
returns g c see types choice old new locks run all stands taken = move-left see types choice old new locks run all stands taken
