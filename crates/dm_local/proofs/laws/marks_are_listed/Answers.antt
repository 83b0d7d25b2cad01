use Rattle.dm_local.proofs.KeptLemmas.{marks-listed}
use Rattle.dm_local.proofs.laws.marks_are_listed.Goals as goal

pub returns : goal.returns
returns c files unit old new reading is of = marks-listed files unit old new of.0 of.1 reading.pp is.1
