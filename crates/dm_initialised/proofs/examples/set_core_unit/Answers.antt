-- The premises are met.
use Rattle.dm_initialised.proofs.ExampleLemmas.{core_initialised, core_scoped}
use Rattle.dm_initialised.proofs.examples.set_core_unit.Goals as goal

pub returns-clause-scoped : goal.returns-clause-scoped
returns-clause-scoped c = core_scoped

pub returns-clause-initialised : goal.returns-clause-initialised
returns-clause-initialised c = core_initialised
