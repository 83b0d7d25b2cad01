-- The lengths and enumerator values, and then those of the form.
use Rattle.std.proofs.Common.{◌++◌, List, Bor, map, ap, ◌∙◌}
use Rattle.dm_tree.specs.declared.tree.Core.{Core}
use Rattle.dm_tree.specs.Trees.{Tree}
use Rattle.dm_tree.specs.Views.{view, view_of_form}
use Rattle.dm_effect.specs.Entities.{trees_in_form}
use Rattle.dm_agree.specs.Parts.{nows}
use Rattle.dm_align.proofs.places.trees_of.Goals as goal

pub returns : goal.returns
returns c types =
    let behind = trees_in_form (view_of_form types c.args.external.now.form) in
    let front = c.in_ok-push_trees.ensures types
    ∙ (ap (λ (items : List (Bor Core)). map (view types) (nows items) ++ map (view types) c.items.result.now) c.new-trees.ensures.items ∙ ap (map (view types)) c.items.ensures) in
    c.in_ok-push_form.ensures types ∙ ap (λ (trees : List Tree). trees ++ behind) front
