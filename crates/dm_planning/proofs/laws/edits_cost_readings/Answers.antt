use Rattle.dm_planning.proofs.EditLemmas.{costs}
use Rattle.dm_planning.proofs.laws.edits_cost_readings.Goals as goal

pub returns : goal.returns
returns c = costs
