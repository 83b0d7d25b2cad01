use Rattle.dm_postfix.proofs.HoleLemmas.{hole-items}
use Rattle.dm_postfix.proofs.laws.items_stand_for_their_hole.Goals as goal

pub returns : goal.returns
returns c = hole-items
