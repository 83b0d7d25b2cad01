use Rattle.dm_pexpr.proofs.NodeLemmas.{sizeof-expr-made}
use Rattle.dm_pexpr.proofs.reader.Reader.sizeof_expr.Goals as goal

pub returns : goal.returns
returns c before wanted given =
    sizeof-expr-made _ before _ c.args.operand c.in-Some.operand wanted c.in-Some.is given c.args.first c.over.result c.in_ok-new.field-0 c.node.result
    c.in_ok-new.ensures c.over.ensures c.node.ensures
