use Rattle.dm_local.proofs.KeptLemmas.{read-held}
use Rattle.dm_local.proofs.laws.read_files_are_held.Goals as goal

pub returns : goal.returns
returns c files unit old new reading file is of served among = read-held files unit old new of.0 of.1 reading.pp is.1 served file among
