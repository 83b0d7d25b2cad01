use Rattle.dm_sound.proofs.UnitLemmas.{unit_typed}
use Rattle.dm_sound.proofs.laws.units_give_typed_programs.Goals as goal

pub returns : goal.returns
returns c types one sound typed proper = unit_typed types one sound typed proper
