use Rattle.dm_edecl.proofs.UnitFitLemmas.{units-known}
use Rattle.dm_edecl.proofs.laws.units_are_soundly_known.Goals as goal

pub returns : goal.returns
returns c = units-known
