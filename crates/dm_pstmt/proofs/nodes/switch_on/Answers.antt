use Rattle.dm_pstmt.proofs.NodeLemmas.{switch-made}
use Rattle.dm_pstmt.proofs.Wholes.{ok-along}
use Rattle.dm_pstmt.proofs.nodes.switch_on.Goals as goal

pub returns : goal.returns
returns c source before names behind read wanted subject items end within =
    ok-along _ _ c.node.result
    (λ made is. switch-made source before names behind c.args.subject read c.args.items wanted subject items c.args.first c.args.after c.above-height.result c.over-inside.result made end within
    c.over-inside.ensures c.above-height.ensures is) c.node.ensures
