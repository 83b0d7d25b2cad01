use Rattle.dm_edecl.proofs.UnitFitLemmas.{units-typed}
use Rattle.dm_edecl.proofs.laws.units_are_well_typed.Goals as goal

pub returns : goal.returns
returns c = units-typed
