-- The parts are listed one list after another.
use Rattle.std.proofs.Common.{List, map, ◌++◌, ap, ◌∙◌}
use Rattle.std.specs.Prelude.{option_map}
use Rattle.std.specs.Option.{option_copied}
use Rattle.dm_tree.specs.Trees.{Tree}
use Rattle.dm_tree.specs.Views.{if_there, expressions_of_locals, view, view_of_local}
use Rattle.dm_sites.specs.Rows.{row}
use Rattle.dm_sites.proofs.WaitLemmas.{listed-six}
use Rattle.dm_sites.proofs.rows.list_parts.Goals as goal

pub returns : goal.returns
returns c types =
    let parts = c.parts_of-parts.result in
    listed-six (row types c.args.row.now.items) (row types c.list_optional.new.row.items) (row types c.list_optional-2.new.row.items) (row types c.list_optional-3.new.row.items)
    (row types c.list_optional-4.new.row.items) (row types c.list_trees.new.row.items) (row types c.list_locals.new.row.items)
    (if_there (option_map (view types) (option_copied parts.first))) (if_there (option_map (view types) (option_copied parts.second)))
    (if_there (option_map (view types) (option_copied parts.third))) (if_there (option_map (view types) (option_copied parts.fourth)))
    (map (view types) parts.items.now) (expressions_of_locals (map (view_of_local types) parts.locals.now))
    (c.in_ok-list_optional.ensures types) (c.in_ok-list_optional-2.ensures types) (c.in_ok-list_optional-3.ensures types) (c.in_ok-list_optional-4.ensures types)
    (c.in_ok-list_trees.ensures types) (c.in_ok-list_locals.ensures types)
    ∙ ap (λ (all : List Tree). row types c.args.row.now.items ++ all) (c.parts_of-parts.ensures.same types)
