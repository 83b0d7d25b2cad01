use Rattle.dm_central.proofs.TwiceExample as twice
use Rattle.dm_central.proofs.examples.an_argument_is_read_twice.Goals as goal

pub returns-clause-added : goal.returns-clause-added
returns-clause-added c = twice.added

pub returns-clause-begun_call : goal.returns-clause-begun_call
returns-clause-begun_call c = twice.begun_call

pub returns-clause-agrees : goal.returns-clause-agrees
returns-clause-agrees c = twice.agrees

pub returns-clause-steps : goal.returns-clause-steps
returns-clause-steps c = twice.steps
