-- From the laws that a unit has one outcome and one reading.
use Rattle.dm_apply.proofs.CompleteLemmas.{plans_complete}
use Rattle.dm_apply.proofs.laws.complete_plan.Goals as goal

pub returns : goal.returns
returns c = plans_complete c.one_outcome.ensures c.one_reading_of_unit.ensures
