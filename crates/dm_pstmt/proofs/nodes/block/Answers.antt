use Rattle.dm_pstmt.proofs.NodeLemmas.{block-made}
use Rattle.dm_pstmt.proofs.Wholes.{ok-along}
use Rattle.dm_pstmt.proofs.nodes.block.Goals as goal

pub returns : goal.returns
returns c source before behind wanted given end within =
    ok-along _ _ c.node.result
    (λ made is. block-made source before behind c.args.items wanted c.args.first c.args.after c.over.result made given end within c.over.ensures is) c.node.ensures
