-- The next definition is edited, behind those that stay as they are.
use Rattle.std.proofs.Common.{Option, Some, None, sym, subst}
use Rattle.dm_token.specs.declared.stop.Stop.{Stop}
use Rattle.dm_planning.specs.Judging.{Edits}
use Rattle.dm_planning.specs.Steps.{HasJudged, IsNext, LeavesProject, project_of}
use Rattle.dm_planning.proofs.EditingLemmas.{judged-next}
use Rattle.dm_planning.proofs.LeaveLemmas.{handed-on, leaves-trans}
use Rattle.dm_planning.proofs.judging.judge_all.Goals as goal

pub returns-in_err-entry-clause-leaves : goal.returns-in_err-entry-clause-leaves
returns-in_err-entry-clause-leaves g c =
    let fault = c.in_err-entry.field-0.0 in
    subst (λ (stop : Option Stop). LeavesProject (g.F.Folder.files c.args.folder.now) (g.F.Folder.files c.edit_one.new.folder) (g.F.Folder.room c.args.folder.now) (g.F.Folder.room c.edit_one.new.folder)
    (g.F.Folder.faults c.args.folder.now) (g.F.Folder.faults c.edit_one.new.folder) c.args.loader.now c.edit_one.new.loader stop)
    (handed-on c.from_residual-in_err-entry.result fault c.from_residual-in_err-entry.ensures.1)
    (leaves-trans (g.F.Folder.files c.args.folder.now) (g.F.Folder.files c.loop-entries.folder) (g.F.Folder.files c.edit_one.new.folder)
    (g.F.Folder.room c.args.folder.now) (g.F.Folder.room c.loop-entries.folder) (g.F.Folder.room c.edit_one.new.folder)
    (g.F.Folder.faults c.args.folder.now) (g.F.Folder.faults c.loop-entries.folder) (g.F.Folder.faults c.edit_one.new.folder)
    c.args.loader.now c.loop-entries.loader c.edit_one.new.loader (Some fault) c.loop-entries.invariant.leaves c.in_err-entry.ensures.leaves)

pub loop-entries-preserved : goal.loop-entries-preserved
loop-entries-preserved g c =
    let told = g.F.Folder.files c.args.folder.now in
    let units = c.args.units.now in
    let subjects = c.args.subjects.now in
    let first = project_of c.args.loader.now c.args.kept.now c.args.readings.now in
    let loader = c.loop-entries.loader in
    let readings = c.loop-entries.readings in
    let now = project_of loader c.loop-entries.kept readings in
    let after = project_of c.edit_one.new.loader c.edit_one.new.kept c.edit_one.new.readings in
    let passed = c.next_change.new.entries in
    let change = c.in-Some.change in
    let entry = c.in_ok-entry.entry in
    let inv = c.loop-entries.invariant in
    let judged : HasJudged told units first subjects passed now =
    subst (λ kept. HasJudged told units first subjects passed (project_of loader kept readings)) c.items-in-loop-entries.ensures
    (c.in_ok-change.ensures.judged told units first readings
    (subst (λ kept. HasJudged told units first subjects c.loop-entries.entries (project_of loader kept readings)) (sym c.items-in-loop-entries.ensures) inv.judged)) in
    let next : IsNext loader c.loop-entries.kept subjects passed (Some change) =
    subst (λ kept. IsNext loader kept subjects passed (Some change)) c.items-in-loop-entries.ensures
    (subst (IsNext loader c.items-in-loop-entries.result.now subjects passed) c.in-Some.is c.in_ok-change.ensures.next) in
    let edits = subst (λ files. Edits files units now change entry after) inv.leaves.files_stay c.in_ok-entry.ensures.edits in
    record {
      judged = subst (λ entries. HasJudged told units first subjects entries after) (sym c.in_ok-push.ensures.ok) (judged-next told units first now after subjects passed change entry judged next edits);
      good = c.in_ok-entry.ensures.good;
      known = c.in_ok-entry.ensures.known;
      leaves =
          leaves-trans (g.F.Folder.files c.args.folder.now) (g.F.Folder.files c.loop-entries.folder) (g.F.Folder.files c.edit_one.new.folder)
          (g.F.Folder.room c.args.folder.now) (g.F.Folder.room c.loop-entries.folder) (g.F.Folder.room c.edit_one.new.folder)
          (g.F.Folder.faults c.args.folder.now) (g.F.Folder.faults c.loop-entries.folder) (g.F.Folder.faults c.edit_one.new.folder)
          c.args.loader.now loader c.edit_one.new.loader None inv.leaves c.in_ok-entry.ensures.leaves;
    }
