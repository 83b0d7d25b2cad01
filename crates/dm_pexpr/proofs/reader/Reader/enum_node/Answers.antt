use Rattle.dm_pexpr.proofs.PartLemmas.{none-gives}
use Rattle.dm_pexpr.proofs.TypeNodeLemmas.{enum-open, enum-made}
use Rattle.dm_pexpr.proofs.reader.Reader.enum_node.Goals as goal

pub returns-in_err-after : goal.returns-in_err-after
returns-in_err-after c before start head wanted given =
    none-gives _ _ before _ _ _ c.from_residual-in_err-after.ensures
    (enum-open _ before _ c.args.first start c.args.tag head c.args.enumerators c.in_ok-enumerators.enumerators wanted c.in_ok-enumerators.was given c.behind-comma.result c.behind-comma.ensures
    c.unwrap_or-behind.result c.unwrap_or-behind.ensures c.in_err-after.ensures)

pub returns : goal.returns
returns c before start head wanted given =
    enum-made _ before _ c.args.first start c.args.tag head c.args.enumerators c.in_ok-enumerators.enumerators wanted c.in_ok-enumerators.was given c.behind-comma.result c.behind-comma.ensures
    c.unwrap_or-behind.result c.in_ok-after.after c.over.result c.unwrap_or-behind.ensures c.in_ok-after.ensures c.is_some.result c.is_some.ensures c.over.ensures c.checked.result c.checked.ensures
