use Rattle.std.specs.Prelude.{Ok}
use Rattle.dm_local.proofs.KeptLemmas.{same-shown}
use Rattle.dm_local.proofs.laws.readings_learn_nothing.Goals as goal

pub returns-clause-again : goal.returns-clause-again
returns-clause-again c files unit known new reading again here there = c.one_reading_of_unit.ensures files unit known known new (Ok reading) (Ok again) here there tt tt

pub returns-clause-learned : goal.returns-clause-learned
returns-clause-learned c files unit known new reading again here there = same-shown files unit known new reading.pp again.pp here.1 there.1
