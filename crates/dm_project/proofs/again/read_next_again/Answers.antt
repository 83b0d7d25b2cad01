-- A unit that reads the file is read as the next one.
use Rattle.dm_readings.proofs.LeaveLemmas.{known-one}
use Rattle.dm_project.proofs.again.read_next_again.Goals as goal

pub returns-in-Ok-clause-leaves : goal.returns-in-Ok-clause-leaves
returns-in-Ok-clause-leaves g c = known-one c.in-Ok.ensures.leaves

pub returns-in-Err-clause-leaves : goal.returns-in-Err-clause-leaves
returns-in-Err-clause-leaves g c = known-one c.in-Err.ensures.leaves
