-- The expressions of the initialiser are alone in the row.
use Rattle.std.proofs.Common.{List, map, reverse, ◌++◌, ap, ◌∙◌}
use Rattle.dm_tree.specs.Views.{entries_of, view_of_local}
use Rattle.dm_sites.specs.Rows.{row}
use Rattle.dm_sites.specs.Seen.{seen}
use Rattle.dm_sites.specs.Sites.{Site}
use Rattle.dm_sites.proofs.NodeLemmas.{local-sites}
use Rattle.dm_sites.proofs.WaitLemmas.{listed-alone}
use Rattle.dm_sites.proofs.waiting.push_local.Goals as goal

pub returns-clause-places : goal.returns-clause-places
returns-clause-places c types all =
    c.in_ok-push_whole.ensures.places types all
    ∙ ap (λ (them : List Site). map (seen types all) c.args.waiting.now.items ++ reverse them)
    (local-sites types (entries_of types c.args.declared.now) c.args.local.now c.is_fixed-fixed.result (row types c.list_local.new.row.items) (c.is_fixed-fixed.ensures types)
    (listed-alone types c.args.row.now.items c.list_local.new.row.items (view_of_local types c.args.local.now).expressions c.requires (c.in_ok-list_local.ensures types)))
