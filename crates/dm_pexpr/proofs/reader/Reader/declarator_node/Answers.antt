use Rattle.dm_pexpr.proofs.DeclaratorNodeLemmas.{declarator-made}
use Rattle.dm_pexpr.proofs.reader.Reader.declarator_node.Goals as goal

pub returns : goal.returns
returns c before wanted given =
    declarator-made _ before _ c.args.first c.args.pointers c.args.direct c.in_ok-direct.direct wanted c.in_ok-direct.was given c.pointed_height-height.result c.checked.result c.pointed_height-height.ensures c.checked.ensures
