use Rattle.dm_pexpr.proofs.NodeLemmas.{sizeof-name-made}
use Rattle.dm_pexpr.proofs.reader.Reader.sizeof_name.Goals as goal

pub returns : goal.returns
returns c before wanted given =
    sizeof-name-made _ before _ c.args.name c.in-Some.name wanted c.in-Some.is given c.args.first c.in-Some-behind.after c.over.result c.in_ok-new.field-0 c.node.result
    c.in-Some-behind.ensures c.in_ok-new.ensures c.over.ensures c.node.ensures
