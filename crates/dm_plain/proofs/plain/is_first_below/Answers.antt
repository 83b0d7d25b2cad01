-- By the form of the tree.
use Rattle.std.proofs.Common.{sym, ap, ◌∙◌}
use Rattle.dm_tree.specs.Trees.{label_of}
use Rattle.dm_tree.proofs.ViewLemmas.{view-core}
use Rattle.dm_plain.specs.Walks.{is_first_inside}
use Rattle.dm_plain.proofs.plain.is_first_below.Goals as goal

pub returns : goal.returns
returns c types = c.is_first_of.ensures types ∙ ap is_first_inside (sym (ap label_of (view-core types c.args.tree.now)))
