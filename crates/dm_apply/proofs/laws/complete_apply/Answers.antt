-- From the laws that a unit has one outcome and one reading.
use Rattle.dm_apply.proofs.CompleteLemmas.{applying_complete}
use Rattle.dm_apply.proofs.laws.complete_apply.Goals as goal

pub returns : goal.returns
returns c = applying_complete c.one_outcome.ensures c.one_reading_of_unit.ensures
