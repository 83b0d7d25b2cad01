-- No node does.
use Rattle.std.proofs.Common.{not, ap}
use Rattle.dm_effect.proofs.entities.is_pure.Goals as goal

pub returns : goal.returns
returns c types = ap not (c.any_node.ensures types)
