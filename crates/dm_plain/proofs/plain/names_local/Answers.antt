-- By the form of the tree.
use Rattle.std.proofs.Common.{sym, ap, ◌∙◌}
use Rattle.dm_tree.specs.Trees.{label_of}
use Rattle.dm_tree.specs.Views.{entries_of}
use Rattle.dm_tree.proofs.ViewLemmas.{view-core}
use Rattle.dm_effect.specs.Scoped.{is_automatic}
use Rattle.dm_plain.specs.Walks.{is_local}
use Rattle.dm_plain.proofs.plain.names_local.Goals as goal

pub returns : goal.returns
returns c types =
    c.is_local_form.ensures types ∙ ap (is_local (is_automatic (entries_of types c.args.unit.now.declared))) (sym (ap label_of (view-core types c.args.tree.now)))
