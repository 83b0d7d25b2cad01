use Rattle.dm_pexpr.proofs.NodeLemmas.{postfix-made}
use Rattle.dm_pexpr.proofs.reader.Reader.postfix.Goals as goal

pub returns : goal.returns
returns c before read left =
    postfix-made _ before _ c.args.left read left c.args.after c.over-height.result c.in_ok-left.left c.node.result
    c.requires.inside c.requires.next c.in_ok-left.ensures c.over-height.ensures c.node.ensures
