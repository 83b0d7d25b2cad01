use Rattle.dm_edecl.proofs.DeclarationFitLemmas.{declaration-settles}
use Rattle.dm_edecl.proofs.laws.declarations_are_well_typed.Goals as goal

pub returns : goal.returns
returns c = declaration-settles
