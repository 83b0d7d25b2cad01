use Rattle.dm_edecl.proofs.OnceLemmas.{functions-once}
use Rattle.dm_edecl.proofs.laws.functions_are_defined_once.Goals as goal

pub returns : goal.returns
returns c = record { once = functions-once }
