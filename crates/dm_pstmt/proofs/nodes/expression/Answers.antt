use Rattle.dm_pstmt.proofs.NodeLemmas.{expression-made}
use Rattle.dm_pstmt.proofs.Wholes.{ok-along}
use Rattle.dm_pstmt.proofs.nodes.expression.Goals as goal

pub returns : goal.returns
returns c source before names wanted value test end within =
    ok-along _ _ c.node.result
    (λ made is. expression-made source before names c.args.value wanted c.args.first c.args.after c.over.result made value test end within c.over.ensures is) c.node.ensures
