use Rattle.dm_defined.proofs.SameLemmas.{names_differ}
use Rattle.dm_defined.proofs.laws.parameters_differ.Goals as goal

pub returns : goal.returns
returns c file bytes definition made = names_differ file bytes definition made
