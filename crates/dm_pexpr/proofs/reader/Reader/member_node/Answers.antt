use Rattle.dm_pexpr.proofs.PartLemmas.{none-gives}
use Rattle.dm_pexpr.proofs.TypeNodeLemmas.{member-open, member-made}
use Rattle.dm_pexpr.proofs.reader.Reader.member_node.Goals as goal

pub returns-in_err-after : goal.returns-in_err-after
returns-in_err-after c before names read start head wanted specifiers given =
    none-gives _ _ before _ _ _ c.from_residual-in_err-after.ensures
    (member-open _ names _ c.args.first start _ head c.args.declarators c.in_ok-declarators.declarators wanted c.in_ok-declarators.was given c.in_err-after.ensures)

pub returns : goal.returns
returns c before names read start head wanted specifiers given =
    member-made _ before names _ c.args.specifiers read start head c.args.declarators c.in_ok-declarators.declarators wanted c.in_ok-declarators.was specifiers given c.args.first c.in_ok-after.after c.above.result c.in_ok-after.ensures c.above.ensures
