use Rattle.dm_pstmt.proofs.NodeLemmas.{case-made}
use Rattle.dm_pstmt.proofs.nodes.case_of.Goals as goal

pub returns : goal.returns
returns c source before names now read wanted label given =
    case-made source before names now c.args.label read c.args.item c.in-Some.item wanted c.in-Some.is label given c.args.first c.above-height.result c.in_ok-item.item c.label_node.result
    c.in_ok-item.ensures c.above-height.ensures c.label_node.ensures
