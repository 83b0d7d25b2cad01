-- From the laws that a unit has one outcome and one reading.
use Rattle.dm_apply.proofs.CompleteLemmas.{generation_complete}
use Rattle.dm_apply.proofs.laws.complete_gen.Goals as goal

pub returns : goal.returns
returns c = generation_complete c.one_outcome.ensures c.one_reading_of_unit.ensures
