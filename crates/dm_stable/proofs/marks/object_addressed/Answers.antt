-- The operand names it.
use Rattle.std.proofs.Common.{ap, sym, ◌∙◌}
use Rattle.dm_tree.specs.declared.tree.Core.{Core}
use Rattle.dm_tree.specs.Trees.{no_trees, more_trees}
use Rattle.dm_tree.specs.Views.{view}
use Rattle.dm_effect.specs.Entities.{is_this, object_first}
use Rattle.dm_effect.proofs.EffectLemmas.{addresses-Address}
use Rattle.dm_stable.proofs.marks.object_addressed.Goals as goal

pub returns-in-Address : goal.returns-in-Address
returns-in-Address c types d =
    addresses-Address types c.args.node.now c.in-Address.operand d c.in-Address.is
    ∙ ap (is_this d) (ap (λ (core : Core). object_first (more_trees (view types core) no_trees)) (sym c.get.ensures) ∙ c.object_named.ensures types no_trees)
