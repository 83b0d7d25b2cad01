use Rattle.dm_edecl.proofs.StatementFitLemmas.{stmt-settles}
use Rattle.dm_edecl.proofs.laws.statements_are_well_typed.Goals as goal

pub returns : goal.returns
returns c = stmt-settles
