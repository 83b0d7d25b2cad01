use Rattle.std.proofs.Common.{sym, ◌∙◌}
use Rattle.dm_pexpr.proofs.DeclaratorNodeLemmas.{enclosed-absent, enclosed-made}
use Rattle.dm_pexpr.proofs.reader.Reader.enclosed_declarator.Goals as goal

pub returns-then-is_absent : goal.returns-then-is_absent
returns-then-is_absent c before start wanted given =
    enclosed-absent _ before _ c.args.inner c.in-Some.inner wanted c.in-Some.is given (sym c.is_absent.ensures ∙ c.if-is_absent.true)

pub returns : goal.returns
returns c before start wanted given =
    enclosed-made _ before _ start c.args.inner c.in-Some.inner wanted c.in-Some.is given (sym c.is_absent.ensures ∙ c.if-is_absent.false) c.in-Some-behind.after c.over.result c.in_ok-new.field-0 c.checked.result
    c.in-Some-behind.ensures c.in_ok-new.ensures c.over.ensures c.checked.ensures
