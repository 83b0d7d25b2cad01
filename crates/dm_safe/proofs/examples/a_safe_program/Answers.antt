use Rattle.dm_sound.proofs.ExampleLemmas.{running_typed}
use Rattle.dm_spans.proofs.ExampleLemmas.{running_moved}
use Rattle.dm_safe.proofs.ExampleLemmas as example
use Rattle.dm_safe.proofs.examples.a_safe_program.Goals as goal

pub returns-clause-typed : goal.returns-clause-typed
returns-clause-typed c = running_typed

pub returns-clause-settled : goal.returns-clause-settled
returns-clause-settled c = example.settled

pub returns-clause-safe : goal.returns-clause-safe
returns-clause-safe c = example.safe

pub returns-clause-moved : goal.returns-clause-moved
returns-clause-moved c = running_moved
