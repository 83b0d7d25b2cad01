use Rattle.dm_expression.proofs.ChoiceLemmas.{step-chosen}
use Rattle.dm_expression.proofs.laws.moves_are_chosen.Goals as goal

pub returns : goal.returns
returns c = step-chosen
