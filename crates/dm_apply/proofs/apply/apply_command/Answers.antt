-- A plan is applied, or it is put why there is none.
use Rattle.std.proofs.Common.{ℕ, List, OnOk, refl, subst}
use Rattle.dm_lines.specs.Outside.{Puts, outside}
use Rattle.dm_apply.specs.Plans.{line_of_no_plan}
use Rattle.dm_apply.proofs.EndingLemmas.{applying_stops, ends_committed}
use Rattle.dm_apply.proofs.apply.apply_command.Goals as goal

pub returns-in-Ok-clause-ending : goal.returns-in-Ok-clause-ending
returns-in-Ok-clause-ending g c =
    ends_committed c.args.json c.args.project.now c.args.units.now (outside g.F.Folder g.S.Sink c.args.folder.now c.args.out.now) c.plan_once.new.loader c.applied_programs_refine.ensures
    (outside g.F.Folder g.S.Sink c.plan_once.new.folder c.args.out.now) (outside g.F.Folder g.S.Sink c.apply_plan.new.folder c.apply_plan.new.out) c.in-Ok.plan c.apply_plan.result
    c.in-Ok.ensures.plan c.in-Ok.ensures.files_stay c.in-Ok.ensures.later refl refl c.apply_plan.ensures.committed c.apply_plan.ensures.files_stay c.apply_plan.ensures.written_stays

pub returns-clause-ending : goal.returns-clause-ending
returns-clause-ending g c =
    applying_stops c.args.json c.args.project.now c.args.units.now (outside g.F.Folder g.S.Sink c.args.folder.now c.args.out.now) c.plan_once.new.loader
    (outside g.F.Folder g.S.Sink c.plan_once.new.folder c.explain_no_plan.new.out) c.in-Err.stop c.names.result.now c.explain_no_plan.result
    c.names.ensures.names c.in-Err.ensures.plan c.in-Err.ensures.cause c.in-Err.ensures.files_stay
    (subst (λ (word : List ℕ). OnOk c.explain_no_plan.result (Puts (outside g.F.Folder g.S.Sink c.args.folder.now c.args.out.now) (outside g.F.Folder g.S.Sink c.plan_once.new.folder c.explain_no_plan.new.out) (line_of_no_plan word c.names.result.now c.in-Err.stop))) c.bytes.ensures c.explain_no_plan.ensures.put) c.explain_no_plan.ensures.status c.explain_no_plan.ensures.err
