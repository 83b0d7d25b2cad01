use Rattle.dm_edecl.proofs.FunctionFitLemmas.{external-settles}
use Rattle.dm_edecl.proofs.laws.external_declarations_are_well_typed.Goals as goal

pub returns : goal.returns
returns c = external-settles
