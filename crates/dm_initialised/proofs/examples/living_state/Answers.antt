-- The premises are met.
use Rattle.dm_initialised.proofs.ExampleLemmas.{beginning_lives, object_there}
use Rattle.dm_initialised.proofs.examples.living_state.Goals as goal

pub returns-clause-living : goal.returns-clause-living
returns-clause-living c = beginning_lives

pub returns-clause-named : goal.returns-clause-named
returns-clause-named c = object_there
