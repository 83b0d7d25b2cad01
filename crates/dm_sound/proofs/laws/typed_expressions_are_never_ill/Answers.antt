use Rattle.dm_sound.proofs.FailLemmas.{moves_excused}
use Rattle.dm_sound.proofs.laws.typed_expressions_are_never_ill.Goals as goal

pub returns : goal.returns
returns c scene world locks result tree run move sound well typed is comes among = moves_excused scene sound world well locks result run tree typed is comes move among
