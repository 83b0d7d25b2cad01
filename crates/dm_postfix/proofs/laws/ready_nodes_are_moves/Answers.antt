use Rattle.dm_postfix.proofs.StepLemmas.{move-at}
use Rattle.dm_postfix.proofs.laws.ready_nodes_are_moves.Goals as goal

pub returns : goal.returns
returns c = move-at
