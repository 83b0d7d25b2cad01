-- The plan of a project, or its stop.
use Rattle.std.proofs.Common.{◌≡◌, List, ◌++◌, map, IsPermutation, refl, sym, ap, ◌∙◌, subst, append_assoc}
use Rattle.dm_reading.specs.declared.reading.Reading.{Reading}
use Rattle.dm_edit.specs.declared.plan.Entry.{Entry}
use Rattle.dm_readings.specs.Definitions.{definitions_in}
use Rattle.dm_readings.specs.Leaves.{AreThere}
use Rattle.dm_subjects.specs.Files.{changed_file, edited_files}
use Rattle.dm_subjects.specs.Subjects.{subject_of}
use Rattle.dm_subjects.specs.declared.subject.Subject.{Subject}
use Rattle.dm_planning.specs.Judging.{JudgesAll}
use Rattle.dm_planning.specs.Plans.{subjects_of}
use Rattle.dm_planning.specs.Steps.{project_of}
use Rattle.dm_planning.proofs.LeaveLemmas.{none-memory}
use Rattle.dm_planning.proofs.PlanLemmas.{all-written, plan-there}
use Rattle.dm_planning.proofs.StopLemmas.{planned-handed, planned-later, planned-stop, reads-first}
use Rattle.dm_planning.proofs.planning.plan.Goals as goal

pub returns-in_err-kept-clause-planned : goal.returns-in_err-kept-clause-planned
returns-in_err-kept-clause-planned g c =
    let told = g.F.Folder.files c.args.folder.now in
    let units = c.args.units.now in
    let old = c.args.loader.now in
    let count = c.args.readings.now in
    let fault = c.in_err-kept.field-0.0 in
    let reads = c.in_err-kept.ensures in
    planned-handed told units old count c.from_residual.result fault c.read_units.new.loader c.read_units.new.readings c.from_residual.ensures.1
    (planned-stop told units old count fault c.read_units.new.loader c.read_units.new.readings reads.project reads.at_most.0 reads.at_most.1)

pub returns-in_err-entries-clause-planned : goal.returns-in_err-entries-clause-planned
returns-in_err-entries-clause-planned g c =
    let told = g.F.Folder.files c.args.folder.now in
    let units = c.args.units.now in
    let old = c.args.loader.now in
    let count = c.args.readings.now in
    let fault = c.in_err-entries.field-0.0 in
    let reads = c.in_ok-kept.ensures in
    let first = project_of c.read_units.new.loader c.in_ok-kept.kept c.read_units.new.readings in
    planned-handed told units old count c.from_residual-in_err-entries.result fault c.judge_all.new.loader c.judge_all.new.readings c.from_residual-in_err-entries.ensures.1
    (planned-later told units old count first fault c.judge_all.new.loader c.judge_all.new.readings
    (reads-first told units old count c.in_ok-kept.kept c.read_units.new.loader c.read_units.new.readings reads.project reads.counted.1) c.in_err-entries.ensures.stops)

pub returns-clause-planned : goal.returns-clause-planned
returns-clause-planned g c =
    let told = g.F.Folder.files c.args.folder.now in
    let units = c.args.units.now in
    let old = c.args.loader.now in
    let count = c.args.readings.now in
    let reads = c.in_ok-kept.ensures in
    let loader = c.read_units.new.loader in
    let kept = c.in_ok-kept.kept in
    let first = project_of loader kept c.read_units.new.readings in
    let last = project_of c.judge_all.new.loader c.judge_all.new.kept c.judge_all.new.readings in
    let entries = c.in_ok-entries.entries in
    let plan = c.in_ok-plan.plan in
    let made = c.in_ok-plan.ensures in
    let subjects : c.items-2.result.now ≡ subjects_of first =
    c.items-2.ensures ∙ c.in_ok-judged.ensures ∙ ap (λ (readings : List Reading). map (subject_of loader) (definitions_in readings)) c.items.ensures in
    let judges = subst (λ files. JudgesAll files units first c.items-2.result.now entries last) reads.files_stay c.in_ok-entries.ensures.judges in
    let judged = subst (λ (these : List Subject). JudgesAll told units first these entries last) subjects judges in (
      first,
      last,
      reads-first told units old count kept loader c.read_units.new.readings reads.project reads.counted.1,
      record {
        judged = subst (λ (these : List Entry). JudgesAll told units first (subjects_of first) these last) (sym made.entries) judged;
        names = made.names;
        numbered = made.numbered;
        changed = subst (λ (these : List Entry). IsPermutation (map (changed_file last.loaded) (edited_files last.loaded these)) plan.files) (sym made.entries) made.files;
        ascending = made.ascending;
      },
      c.in_ok-entries.ensures.good.limits,
      refl,
      refl,
    )

pub returns-clause-there : goal.returns-clause-there
returns-clause-there g c =
    let told = g.F.Folder.files c.args.folder.now in
    let units = c.args.units.now in
    let stay = c.in_ok-kept.ensures.files_stay in
    let loader = c.read_units.new.loader in
    let known = c.judge_all.new.loader in
    let first = project_of loader c.in_ok-kept.kept c.read_units.new.readings in
    let last = project_of known c.judge_all.new.kept c.judge_all.new.readings in
    let entries = c.in_ok-entries.entries in
    let judges = subst (λ files. JudgesAll files units first c.items-2.result.now entries last) stay c.in_ok-entries.ensures.judges in
    let there : AreThere told loader = c.in_ok-kept.ensures.there c.requires.there in
    let still = subst (λ files. AreThere files known) stay (c.in_ok-entries.ensures.leaves.there none-memory (subst (λ files. AreThere files loader) (sym stay) there)) in
    plan-there told known still entries c.in_ok-plan.plan.files (all-written told units first last c.items-2.result.now entries judges) c.in_ok-plan.ensures.files

pub returns-clause-names : goal.returns-clause-names
returns-clause-names g c = λ not.
    let first = (c.in_ok-kept.ensures.loader (λ e. absurd (cc))).begins in
    let second = c.in_ok-entries.ensures.leaves.begins none-memory in (
      first.0 ++ second.0,
      second.1 ∙ ap (λ names. names ++ second.0) first.1 ∙ append_assoc c.args.loader.now.names first.0 second.0,
    )
