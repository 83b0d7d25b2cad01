-- The part stands in the list, or in the declarators.
use Rattle.std.proofs.Common.{map, [], append-nil, ap, sym, ◌∙◌}
use Rattle.dm_tree.specs.Paths.{tree_in}
use Rattle.dm_tree.specs.Trees.{trees}
use Rattle.dm_tree.specs.Views.{expressions_of_locals, view_of_local}
use Rattle.dm_effect.proofs.parts.in_lists.Goals as goal

pub returns-in-Found : goal.returns-in-Found
returns-in-Found c types = sym (c.in-Found.ensures types (expressions_of_locals (map (view_of_local types) c.args.locals.now)))

pub returns-in-Found-in_locals : goal.returns-in-Found-in_locals
returns-in-Found-in_locals c types =
    let behind = expressions_of_locals (map (view_of_local types) c.args.locals.now) in
    sym (c.in-Left.ensures types behind ∙ (ap (λ all. tree_in (trees all) c.in-Left.left) (sym (append-nil behind)) ∙ c.in-Found-in_locals.ensures types []))

pub returns-in-Left-in_locals : goal.returns-in-Left-in_locals
returns-in-Left-in_locals c types =
    let behind = expressions_of_locals (map (view_of_local types) c.args.locals.now) in
    sym (c.in-Left.ensures types behind ∙ (ap (λ all. tree_in (trees all) c.in-Left.left) (sym (append-nil behind)) ∙ c.in-Left-in_locals.ensures types []))
