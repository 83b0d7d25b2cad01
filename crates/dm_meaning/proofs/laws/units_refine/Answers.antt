use Rattle.dm_meaning.proofs.UnitLemmas.{units_refine}
use Rattle.dm_meaning.proofs.laws.units_refine.Goals as goal

pub returns : goal.returns
returns c = units_refine
