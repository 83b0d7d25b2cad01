use Rattle.dm_local.proofs.KeptLemmas.{read-again}
use Rattle.dm_local.proofs.laws.readings_stay.Goals as goal

pub returns : goal.returns
returns c before after unit old new known reading is of keeps = (is.0, read-again before after unit old new known of.0 of.1 reading.pp is.1 keeps, is.2)
