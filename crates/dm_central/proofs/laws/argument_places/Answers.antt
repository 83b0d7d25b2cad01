use Rattle.dm_central.proofs.ArgumentPlaceLemmas.{at_once_there, first_there}
use Rattle.dm_central.proofs.laws.argument_places.Goals as goal

pub returns-clause-at_once : goal.returns-clause-at_once
returns-clause-at_once c = at_once_there

pub returns-clause-first : goal.returns-clause-first
returns-clause-first c = first_there
