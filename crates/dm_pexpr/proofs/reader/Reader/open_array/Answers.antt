use Rattle.dm_pexpr.proofs.DeclaratorNodeLemmas.{array-made}
use Rattle.dm_pexpr.proofs.reader.Reader.open_array.Goals as goal

pub returns : goal.returns
returns c before start read inner =
    array-made _ before _ start c.args.direct read inner c.args.after c.over-height.result c.in_ok-new.field-0 c.checked.result c.requires.inside c.requires.next c.in_ok-new.ensures c.over-height.ensures c.checked.ensures
