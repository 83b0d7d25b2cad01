-- The premises are met.
use Rattle.std.specs.Prelude.{refl}
use Rattle.dm_initialised.proofs.ExampleLemmas.{unit_initialised, unit_scoped}
use Rattle.dm_initialised.proofs.examples.set_unit.Goals as goal

pub returns-clause-scoped : goal.returns-clause-scoped
returns-clause-scoped c = unit_scoped

pub returns-clause-initialised : goal.returns-clause-initialised
returns-clause-initialised c = unit_initialised

pub returns-clause-given : goal.returns-clause-given
returns-clause-given c = refl
