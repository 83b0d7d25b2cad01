use Rattle.dm_pexpr.proofs.PartLemmas.{none-gives}
use Rattle.dm_pstmt.proofs.DeclarationNodes.{no-braces-made, braces-made}
use Rattle.dm_pstmt.proofs.initialiser.braced.Goals as goal

pub returns-in_err-after : goal.returns-in_err-after
returns-in_err-after c before start wanted given =
    none-gives _ _ before _ _ _ c.from_residual-in_err-after.ensures
    (no-braces-made _ before _ c.args.items c.in_ok-items.items wanted c.in_ok-items.was c.args.first start c.unwrap_or-behind.result c.behind-comma.result given c.behind-comma.ensures c.unwrap_or-behind.ensures c.in_err-after.ensures)

pub returns : goal.returns
returns c before start wanted given =
    braces-made _ before _ c.args.items c.in_ok-items.items wanted c.in_ok-items.was c.args.first start c.unwrap_or-behind.result c.in_ok-after.after c.over.result c.behind-comma.result c.is_some.result c.checked.result given
    c.behind-comma.ensures c.unwrap_or-behind.ensures c.is_some.ensures c.in_ok-after.ensures c.over.ensures c.checked.ensures
