use Rattle.dm_pexpr.proofs.NodeLemmas.{cast-made}
use Rattle.dm_pexpr.proofs.reader.Reader.cast.Goals as goal

pub returns : goal.returns
returns c before names read wanted name given =
    cast-made _ before names _ c.args.name read c.args.operand c.in-Some.operand wanted c.in-Some.is name given c.args.first c.above-height.result c.in_ok-name.name c.in_ok-new.field-0 c.node.result
    c.in_ok-name.ensures c.in_ok-new.ensures c.above-height.ensures c.node.ensures
