use Rattle.dm_expression.proofs.LeaveLemmas.{hole-released}
use Rattle.dm_expression.proofs.laws.holes_stay_where_nodes_were_taken.Goals as goal

pub returns : goal.returns
returns g c see types choice old new locks run all stands taken = hole-released see types choice old new locks run all stands taken
