use Rattle.dm_sound.proofs.ProperLemmas.{unit_proper}
use Rattle.dm_sound.proofs.laws.units_have_proper_types.Goals as goal

pub returns : goal.returns
returns c = unit_proper
