use Rattle.dm_formed.proofs.TokenLemmas.{ctokens-sound}
use Rattle.dm_formed.proofs.laws.constants_are_sound.Goals as goal

pub returns : goal.returns
returns c = ctokens-sound
