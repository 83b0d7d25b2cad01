use Rattle.dm_pexpr.proofs.NodeLemmas.{arrow-made}
use Rattle.dm_pexpr.proofs.reader.Reader.arrow.Goals as goal

pub returns : goal.returns
returns c before read left =
    arrow-made _ before _ c.args.left read left c.args.name c.in-Some.after c.over-height.result c.in_ok-left.left c.node.result
    c.in-Some.ensures c.in_ok-left.ensures c.over-height.ensures c.node.ensures
