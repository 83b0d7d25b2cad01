use Rattle.dm_pexpr.proofs.DeclaratorNodeLemmas.{sized-made}
use Rattle.dm_pexpr.proofs.reader.Reader.sized_array.Goals as goal

pub returns : goal.returns
returns c before names start read wanted inner given =
    sized-made _ before names _ start c.args.direct read c.args.length c.in-Some.length wanted c.in-Some.is inner given c.in-Some-behind.after c.above-height.result c.in_ok-direct.direct c.in_ok-new.field-0 c.checked.result
    c.in-Some-behind.ensures c.in_ok-direct.ensures c.in_ok-new.ensures c.above-height.ensures c.checked.ensures
