use Rattle.dm_postfix.proofs.StepLemmas.{moves-counted}
use Rattle.dm_postfix.proofs.laws.ready_nodes_are_counted.Goals as goal

pub returns : goal.returns
returns c = moves-counted
