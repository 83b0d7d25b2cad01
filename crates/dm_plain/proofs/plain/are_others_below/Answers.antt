-- By the form of the tree.
use Rattle.std.proofs.Common.{sym, ap, ◌∙◌}
use Rattle.dm_tree.specs.Trees.{label_of}
use Rattle.dm_tree.proofs.ViewLemmas.{view-core}
use Rattle.dm_plain.specs.Walks.{are_others_inside}
use Rattle.dm_plain.proofs.plain.are_others_below.Goals as goal

pub returns : goal.returns
returns c types = c.are_others_of.ensures types ∙ ap are_others_inside (sym (ap label_of (view-core types c.args.tree.now)))
