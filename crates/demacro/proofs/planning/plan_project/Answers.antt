-- Units that are found are planned, and else it is explained why there are none.
use Rattle.std.proofs.Common.{refl, subst}
use Rattle.dm_lines.specs.Outside.{outside}
use Rattle.dm_sources.specs.Sources.{AreSought}
use Rattle.dm_apply.specs.Endings.{EndsPlanningAs}
use Rattle.demacro.proofs.PlanSteps.{plan_found, plan_missing}
use Rattle.demacro.proofs.planning.plan_project.Goals as goal

pub returns-in-Found-clause-ending : goal.returns-in-Found-clause-ending
returns-in-Found-clause-ending g c =
    let before = outside g.F.Folder g.S.Sink c.args.folder.now c.args.out.now in
    let middle = outside g.F.Folder g.S.Sink c.sources_of.new.folder c.args.out.now in
    let after = outside g.F.Folder g.S.Sink c.plan_command.new.folder c.plan_command.new.out in
    let found = subst (AreSought before.files c.in_ok-project.project before.folder_faults middle.folder_faults) c.in-Found.is c.in_ok-units.ensures.sought in
    plan_found c.args.json c.in_ok-project.project c.in-Found.units before middle after c.sources_of.ensures.files_stay refl c.sources_of.ensures.later refl
    c.args.project.now c.plan_command.result c.in_ok-project.ensures found
    (subst (λ units. EndsPlanningAs c.args.json c.in_ok-project.project units middle after c.plan_command.result) c.items.ensures c.plan_command.ensures.ending)

pub returns-clause-ending : goal.returns-clause-ending
returns-clause-ending g c =
    let before = outside g.F.Folder g.S.Sink c.args.folder.now c.args.out.now in
    let after = outside g.F.Folder g.S.Sink c.sources_of.new.folder c.explain_no_sources.new.out in
    let missing = subst (AreSought before.files c.in_ok-project.project before.folder_faults after.folder_faults) c.in-Missing.is c.in_ok-units.ensures.sought in
    plan_missing c.args.json c.in_ok-project.project c.bytes.result.now c.args.project.now before after c.in-Missing.why missing c.sources_of.ensures.files_stay c.bytes.ensures c.in_ok-project.ensures
    c.explain_no_sources.result c.explain_no_sources.ensures.put c.explain_no_sources.ensures.status c.explain_no_sources.ensures.err
