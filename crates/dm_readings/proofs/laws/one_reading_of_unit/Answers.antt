use Rattle.dm_readings.proofs.OneLemmas.{one-reading}
use Rattle.dm_readings.proofs.laws.one_reading_of_unit.Goals as goal

pub returns : goal.returns
returns c files unit old first second one other here there f g = one-reading c.one_outcome.ensures c.one_reading.ensures files unit old first second one other here there f g
