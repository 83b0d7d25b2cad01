-- The names of the files differ.
use Rattle.std.proofs.Common.{List, map, IsPermutation, subst}
use Rattle.dm_edit.specs.declared.plan.Entry.{Entry}
use Rattle.dm_subjects.specs.Files.{changed_file, edited_files}
use Rattle.dm_planning.proofs.PlanLemmas.{plan-distinct}
use Rattle.dm_planning.proofs.planning.plan_of.Goals as goal

pub returns-clause-distinct : goal.returns-clause-distinct
returns-clause-distinct c =
    let loader = c.args.loader.now in
    let files = c.in_ok-files.files in
    plan-distinct loader c.names_differ.ensures c.args.entries files
    (subst (λ (entries : List Entry). IsPermutation (map (changed_file loader) (edited_files loader entries)) files) c.items.ensures c.in_ok-files.ensures.files)
