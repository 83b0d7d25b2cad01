use Rattle.std.proofs.Common.{refl}
use Rattle.dm_pstmt.proofs.NodeLemmas.{if-only-made}
use Rattle.dm_pstmt.proofs.Wholes.{ok-along}
use Rattle.dm_pstmt.proofs.nodes.if_alone.Goals as goal

pub returns : goal.returns
returns c source before names behind read seen condition body =
    ok-along _ _ c.node.result
    (λ made is. if-only-made source before names behind c.args.condition read c.args.body seen condition body c.args.first c.above-height.result c.args.body.tree made
    refl c.above-height.ensures is) c.node.ensures
