use Rattle.dm_sound.proofs.RunLemmas.{moves_fit}
use Rattle.dm_sound.proofs.laws.expressions_keep_their_types.Goals as goal

pub returns : goal.returns
returns c scene world locks result tree run move sound well typed comes among = moves_fit scene sound world well locks result run tree typed comes move among
