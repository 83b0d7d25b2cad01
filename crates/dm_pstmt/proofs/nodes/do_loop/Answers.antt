use Rattle.std.proofs.Common.{refl}
use Rattle.dm_pstmt.proofs.NodeLemmas.{do-made}
use Rattle.dm_pstmt.proofs.Wholes.{ok-along}
use Rattle.dm_pstmt.proofs.nodes.do_loop.Goals as goal

pub returns : goal.returns
returns c source before behind names seen read body condition test end within =
    ok-along _ _ c.node.result
    (λ made is. do-made source before behind names c.args.body seen c.args.condition read body condition test c.args.first c.args.after c.above-height.result c.args.body.tree made end within
    refl c.above-height.ensures is) c.node.ensures
