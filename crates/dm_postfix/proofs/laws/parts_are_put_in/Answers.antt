use Rattle.dm_postfix.proofs.HoleLemmas.{items-filled}
use Rattle.dm_postfix.proofs.laws.parts_are_put_in.Goals as goal

pub returns : goal.returns
returns c = items-filled
