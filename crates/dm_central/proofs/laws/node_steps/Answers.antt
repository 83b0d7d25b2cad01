use Rattle.dm_central.proofs.NodeLemmas.{node_agrees}
use Rattle.dm_central.proofs.laws.node_steps.Goals as goal

pub returns : goal.returns
returns c = node_agrees
