use Rattle.dm_central.proofs.LeftAloneLemmas.{begins_left_alone, left_alone_later}
use Rattle.dm_central.proofs.laws.closed_objects_are_left_alone.Goals as goal

pub returns-clause-begins : goal.returns-clause-begins
returns-clause-begins c = begins_left_alone

pub returns-clause-steps : goal.returns-clause-steps
returns-clause-steps c = left_alone_later
