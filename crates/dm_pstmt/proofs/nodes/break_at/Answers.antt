use Rattle.dm_pstmt.proofs.NodeLemmas.{break-made}
use Rattle.dm_pstmt.proofs.Wholes.{ok-along}
use Rattle.dm_pstmt.proofs.nodes.break_at.Goals as goal

pub returns : goal.returns
returns c source before test end within =
    ok-along _ _ c.node.result
    (λ made is. break-made source before c.args.first c.args.after made test end within is) c.node.ensures
