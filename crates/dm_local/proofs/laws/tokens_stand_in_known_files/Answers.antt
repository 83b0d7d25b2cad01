use Rattle.dm_local.proofs.KeptLemmas.{tokens-under}
use Rattle.dm_local.proofs.laws.tokens_stand_in_known_files.Goals as goal

pub returns : goal.returns
returns c files unit old new reading is of = tokens-under files unit old new of.0 of.1 reading.pp is.1
