use Rattle.dm_planning.proofs.EditLemmas.{one-outcome}
use Rattle.dm_planning.proofs.laws.each_definition_has_one_outcome.Goals as goal

pub returns : goal.returns
returns c = one-outcome
