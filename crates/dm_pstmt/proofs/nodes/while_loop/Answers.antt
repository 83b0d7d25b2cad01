use Rattle.std.proofs.Common.{refl}
use Rattle.dm_pstmt.proofs.NodeLemmas.{while-made}
use Rattle.dm_pstmt.proofs.Wholes.{ok-along}
use Rattle.dm_pstmt.proofs.nodes.while_loop.Goals as goal

pub returns : goal.returns
returns c source before names behind read wanted condition given =
    ok-along _ _ c.node.result
    (λ made is. while-made source before names behind c.args.condition read c.args.body c.in-Some.body wanted c.in-Some.is condition given c.args.first c.above-height.result c.in-Some.body.tree made
    refl c.above-height.ensures is) c.node.ensures
