use Rattle.dm_pexpr.proofs.TypeNodeLemmas.{valued-made}
use Rattle.dm_pexpr.proofs.reader.Reader.valued_enumerator.Goals as goal

pub returns : goal.returns
returns c before wanted given =
    valued-made _ before _ _ c.args.value c.in-Some.value wanted c.in-Some.is given c.args.name c.above.result c.above.ensures c.in_ok-declare.ensures
