use Rattle.dm_central.proofs.ClosedBeginLemmas.{begins_all_closed}
use Rattle.dm_central.proofs.ClosedFrameLemmas.{all_closed_later}
use Rattle.dm_central.proofs.laws.closed_objects_stay.Goals as goal

pub returns-clause-begins : goal.returns-clause-begins
returns-clause-begins c = begins_all_closed

pub returns-clause-steps : goal.returns-clause-steps
returns-clause-steps c = all_closed_later
