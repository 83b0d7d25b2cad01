use Rattle.dm_edecl.proofs.UnitFitLemmas.{units-give}
use Rattle.dm_edecl.proofs.laws.defined_functions_give_objects.Goals as goal

pub returns : goal.returns
returns c = units-give
