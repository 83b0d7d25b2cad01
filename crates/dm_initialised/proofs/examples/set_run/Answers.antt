-- The premises are met.
use Rattle.dm_initialised.proofs.ExampleLemmas.{program_settled, program_typed, unit_begins, unit_runs}
use Rattle.dm_initialised.proofs.examples.set_run.Goals as goal

pub returns-clause-typed : goal.returns-clause-typed
returns-clause-typed c = program_typed

pub returns-clause-settled : goal.returns-clause-settled
returns-clause-settled c = program_settled

pub returns-clause-begins : goal.returns-clause-begins
returns-clause-begins c = unit_begins

pub returns-clause-run : goal.returns-clause-run
returns-clause-run c = unit_runs
