use Rattle.dm_pstmt.proofs.NodeLemmas.{default-made}
use Rattle.dm_pstmt.proofs.nodes.default_of.Goals as goal

pub returns : goal.returns
returns c source before now wanted given =
    default-made source before now c.args.item c.in-Some.item wanted c.in-Some.is given c.args.first c.over-height.result c.in_ok-item.item c.label_node.result
    c.in_ok-item.ensures c.over-height.ensures c.label_node.ensures
