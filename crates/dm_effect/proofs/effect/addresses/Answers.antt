-- By the operand.
use Rattle.std.proofs.Common.{ap, sym, ◌∙◌}
use Rattle.dm_tree.specs.declared.tree.Core.{Core}
use Rattle.dm_tree.specs.Trees.{no_trees, more_trees}
use Rattle.dm_tree.specs.Views.{view}
use Rattle.dm_effect.specs.Entities.{is_this, object_first}
use Rattle.dm_effect.proofs.EffectLemmas.{addresses-Address}
use Rattle.dm_effect.proofs.effect.addresses.Goals as goal

pub returns-in-Address : goal.returns-in-Address
returns-in-Address c types =
    addresses-Address types c.args.node.now c.in-Address.operand c.args.object c.in-Address.is
    ∙ (ap (λ (core : Core). is_this c.args.object (object_first (more_trees (view types core) no_trees))) (sym c.get.ensures) ∙ c.is_object.ensures types no_trees)
