-- By the form of the tree.
use Rattle.std.proofs.Common.{sym, ap, ◌∙◌}
use Rattle.dm_tree.specs.Trees.{label_of}
use Rattle.dm_tree.proofs.ViewLemmas.{view-core}
use Rattle.dm_align.specs.Units.{is_sizeof}
use Rattle.dm_align.proofs.places.is_sizeof.Goals as goal

pub returns : goal.returns
returns c types = c.is_sizeof_form.ensures types ∙ ap is_sizeof (sym (ap label_of (view-core types c.args.tree.now)))
