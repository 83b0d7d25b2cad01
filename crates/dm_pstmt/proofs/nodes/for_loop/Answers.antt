use Rattle.dm_pstmt.proofs.NodeLemmas.{for-made}
use Rattle.dm_pstmt.proofs.Wholes.{ok-along}
use Rattle.dm_pstmt.proofs.nodes.for_loop.Goals as goal
use Rattle.std.proofs.Common.{refl}

pub returns : goal.returns
returns c source before names behind at read wanted clauses given =
    ok-along _ _ c.node.result
    (λ made is. for-made source before names behind at c.args.clauses read c.args.body c.in-Some.body wanted c.in-Some.is clauses given
    c.args.first c.above-height.result c.into_inner-start.result c.in-Some.body.tree made c.into_inner-start.ensures refl c.above-height.ensures is) c.node.ensures
