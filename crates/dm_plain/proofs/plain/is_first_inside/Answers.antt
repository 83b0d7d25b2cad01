-- It stands in one, or its label says so.
use Rattle.std.proofs.Common.{◌||◌, Bool, sym, ap, ◌∙◌}
use Rattle.dm_tree.specs.Trees.{label_of}
use Rattle.dm_tree.specs.Views.{view}
use Rattle.dm_plain.specs.Walks.{is_first_inside}
use Rattle.dm_plain.proofs.plain.is_first_inside.Goals as goal

pub returns : goal.returns
returns c types = c.is_first_below.ensures types ∙ ap (λ (test : Bool). test || is_first_inside (label_of (view types c.args.one.tree.now))) (sym c.if-one.false)
