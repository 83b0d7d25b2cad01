use Rattle.dm_pexpr.proofs.NodeLemmas.{prefix-made}
use Rattle.dm_pexpr.proofs.reader.Reader.prefix.Goals as goal

pub returns : goal.returns
returns c before wanted given =
    prefix-made _ before _ c.args.operand c.in-Some.operand wanted c.in-Some.is given c.args.first c.over.result c.in_ok-new.field-0 c.node.result
    c.in_ok-new.ensures c.over.ensures c.node.ensures
