use Rattle.dm_postfix.proofs.HoleLemmas.{tree-items}
use Rattle.dm_postfix.proofs.laws.items_stand_for_their_tree.Goals as goal

pub returns : goal.returns
returns c = tree-items
