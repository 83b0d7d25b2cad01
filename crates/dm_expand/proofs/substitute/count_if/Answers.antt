use Rattle.std.proofs.Common.{arith}
use Rattle.dm_expand.specs.Laws.{Follows}
use Rattle.dm_expand.proofs.StepLemmas.{greatest_work-is}
use Rattle.dm_expand.proofs.ProgressLemmas.{spend-follows}
use Rattle.dm_expand.proofs.SubstitutionLemmas.{each-ok}
use Rattle.dm_expand.proofs.substitute.count_if.Goals as goal

pub spend-requires : goal.spend-requires
spend-requires c = omega (arith, c.requires.spent, greatest_work-is)

pub returns-in_ok-spend-clause-follows : goal.returns-in_ok-spend-clause-follows
returns-in_ok-spend-clause-follows c =
    each-ok (Follows c.args.progress.now) _ c.spend.new.self c.in_ok-spend.ensures.ok (spend-follows c.args.place c.args.work c.args.progress.now)
