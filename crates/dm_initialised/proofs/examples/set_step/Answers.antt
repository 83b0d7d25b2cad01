-- The premises are met.
use Rattle.dm_initialised.proofs.ExampleLemmas.{beginning_set, beginning_typed, first_step}
use Rattle.dm_initialised.proofs.examples.set_step.Goals as goal

pub returns-clause-typed : goal.returns-clause-typed
returns-clause-typed c = beginning_typed

pub returns-clause-set : goal.returns-clause-set
returns-clause-set c = beginning_set

pub returns-clause-step : goal.returns-clause-step
returns-clause-step c = first_step
