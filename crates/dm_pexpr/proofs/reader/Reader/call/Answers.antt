use Rattle.dm_pexpr.proofs.NodeLemmas.{call-made}
use Rattle.dm_pexpr.proofs.reader.Reader.call.Goals as goal

pub returns : goal.returns
returns c before names read at wanted left given =
    call-made _ before names _ c.args.left read at c.args.arguments c.in-Some.arguments wanted c.in-Some.is left given c.in-Some-behind.after c.above-height.result c.in_ok-left.left c.node.result
    c.in-Some-behind.ensures c.in_ok-left.ensures c.above-height.ensures c.node.ensures
