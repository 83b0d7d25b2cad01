-- By the runs of the index.
use Rattle.std.proofs.Common.{◌↔◌, IsTrue, List, Some, map, subst}
use Rattle.dm_runs.specs.declared.run.Run.{Run}
use Rattle.dm_tree.specs.declared.unit.CoreExternal.{CoreExternal}
use Rattle.dm_tree.specs.Views.{view_of_external, view_of_unit}
use Rattle.dm_meaning.specs.Replaced.{Zipped}
use Rattle.dm_agree.specs.Comparing.{added_of}
use Rattle.dm_align.specs.Insertions.{put_in}
use Rattle.dm_align.specs.Units.{rewriting_of, without, ExternalsAgree}
use Rattle.dm_align.proofs.units.others_agree.Goals as goal

pub returns : goal.returns
returns c =
    let units = c.args.units.now in
    let new_types = units.new_types.now in
    let old_types = units.old_types.now in
    let old = view_of_unit old_types units.old.now in
    let it = c.args.it.now in
    let put = put_in it (added_of new_types c.args.added) in
    let answer = c.in_ok-answer.answer in
    subst (λ (runs : List Run). IsTrue answer
    ↔ Zipped (ExternalsAgree (rewriting_of old_types old runs (Some put))) (without it.external 1 (map (view_of_external new_types) units.new.now.externals)) (map (view_of_external old_types) units.old.now.externals))
    c.in_ok-runs.ensures
    (subst (λ (others : List CoreExternal). IsTrue answer
    ↔ Zipped (ExternalsAgree (rewriting_of old_types old c.in_ok-runs.runs (Some put))) (without it.external 1 (map (view_of_external new_types) units.new.now.externals)) (map (view_of_external old_types) others))
    c.items-old.ensures
    (subst (λ (externals : List CoreExternal). IsTrue answer
    ↔ Zipped (ExternalsAgree (rewriting_of old_types old c.in_ok-runs.runs (Some put))) (without it.external 1 (map (view_of_external new_types) externals)) (map (view_of_external old_types) c.items-old.result.now))
    c.items-new.ensures c.in_ok-answer.ensures))
