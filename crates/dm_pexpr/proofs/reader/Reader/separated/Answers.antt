use Rattle.dm_pexpr.proofs.NodeLemmas.{comma-made}
use Rattle.dm_pexpr.proofs.reader.Reader.separated.Goals as goal

pub returns : goal.returns
returns c before start wanted given =
    comma-made _ before _ start c.args.parts c.in_ok-parts.parts wanted c.in_ok-parts.was given c.args.first c.over.result c.checked.result
    c.over.ensures c.checked.ensures
