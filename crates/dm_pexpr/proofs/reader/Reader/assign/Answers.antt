use Rattle.dm_pexpr.proofs.NodeLemmas.{assign-made}
use Rattle.dm_pexpr.proofs.reader.Reader.assign.Goals as goal

pub returns : goal.returns
returns c before names read wanted left given =
    assign-made _ before names _ c.args.left read c.args.right c.in-Some.right wanted c.in-Some.is left given c.args.operator c.above-height.result c.in_ok-left.left c.in_ok-new.field-0 c.node.result
    c.in_ok-left.ensures c.in_ok-new.ensures c.above-height.ensures c.node.ensures
