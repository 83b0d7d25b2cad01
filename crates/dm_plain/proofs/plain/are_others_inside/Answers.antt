-- It stands in one, or its label says so.
use Rattle.std.proofs.Common.{◌||◌, Bool, sym, ap, ◌∙◌}
use Rattle.dm_tree.specs.Trees.{label_of}
use Rattle.dm_tree.specs.Views.{view}
use Rattle.dm_plain.specs.Walks.{are_others_inside}
use Rattle.dm_plain.proofs.plain.are_others_inside.Goals as goal

pub returns : goal.returns
returns c types = c.are_others_below.ensures types ∙ ap (λ (test : Bool). test || are_others_inside (label_of (view types c.args.one.tree.now))) (sym c.if-one.false)
