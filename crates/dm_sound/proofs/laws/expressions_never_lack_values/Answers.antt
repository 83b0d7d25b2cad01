use Rattle.dm_sound.proofs.CauseLemmas.{moves_have_values}
use Rattle.dm_sound.proofs.laws.expressions_never_lack_values.Goals as goal

pub returns : goal.returns
returns c = moves_have_values
