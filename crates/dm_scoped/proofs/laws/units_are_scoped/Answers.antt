use Rattle.dm_scoped.proofs.UnitLemmas.{units-scoped}
use Rattle.dm_scoped.proofs.laws.units_are_scoped.Goals as goal

pub returns : goal.returns
returns c = units-scoped
