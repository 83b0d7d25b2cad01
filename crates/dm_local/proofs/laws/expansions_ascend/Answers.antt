use Rattle.dm_local.proofs.KeptLemmas.{expansions-ascend}
use Rattle.dm_local.proofs.laws.expansions_ascend.Goals as goal

pub returns : goal.returns
returns c files unit old new reading is of = expansions-ascend files unit old new of.0 of.1 reading.pp is.1
