use Rattle.dm_declared.proofs.UnitLemmas.{units_once}
use Rattle.dm_declared.proofs.laws.units_declare_once.Goals as goal

pub returns : goal.returns
returns c = units_once
