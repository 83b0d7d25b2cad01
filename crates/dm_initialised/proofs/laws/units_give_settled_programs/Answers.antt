use Rattle.dm_initialised.proofs.UnitLemmas.{unit_settled}
use Rattle.dm_initialised.proofs.laws.units_give_settled_programs.Goals as goal

pub returns : goal.returns
returns c types one needs initialised scoped = unit_settled types one needs initialised scoped
