use Rattle.dm_expression.proofs.LeaveLemmas.{operand-left}
use Rattle.dm_expression.proofs.laws.chosen_operands_stand_in_place.Goals as goal

pub returns : goal.returns
returns g c see types choice old new last locks run all stands taken = operand-left see types choice old new locks run all stands taken last
