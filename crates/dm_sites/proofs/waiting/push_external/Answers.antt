-- The form is pushed, and then the array lengths and enumerator values.
use Rattle.std.proofs.Common.{List, map, true, false, ◌++◌, reverse, ap, ◌∙◌}
use Rattle.dm_tree.specs.declared.tree.Core.{Core}
use Rattle.dm_tree.specs.Views.{entries_of, view, view_of_form}
use Rattle.dm_sites.specs.Rows.{row}
use Rattle.dm_sites.specs.Seen.{seen}
use Rattle.dm_sites.specs.Sites.{Site, form_sites, whole}
use Rattle.dm_sites.proofs.WaitLemmas.{listed-alone, pushed-twice}
use Rattle.dm_sites.proofs.waiting.push_external.Goals as goal

pub returns-clause-places : goal.returns-clause-places
returns-clause-places c types all =
    let form = form_sites (entries_of types c.args.declared.now) (view_of_form types c.args.external.now.form) in
    pushed-twice (map (seen types all) c.args.waiting.now.items) (map (seen types all) c.push_form.new.waiting.items) (map (seen types all) c.push_whole.new.waiting.items) form
    (map (whole true false) (row types c.list_trees.new.row.items)) (c.in_ok-push_form.ensures.places types all) (c.in_ok-push_whole.ensures.places types all)
    ∙ ap (λ (them : List Site). map (seen types all) c.args.waiting.now.items ++ reverse (them ++ form))
    (ap (map (whole true false)) (listed-alone types c.push_form.new.row.items c.list_trees.new.row.items (map (view types) c.items.result.now) c.in_ok-push_form.ensures.empty (c.in_ok-list_trees.ensures types)
    ∙ ap (λ (trees : List Core). map (view types) trees) c.items.ensures))
