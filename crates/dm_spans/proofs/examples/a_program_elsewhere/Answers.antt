use Rattle.dm_sound.proofs.ExampleLemmas.{running_typed}
use Rattle.dm_spans.proofs.ExampleLemmas.{running_moved}
use Rattle.dm_spans.proofs.examples.a_program_elsewhere.Goals as goal

pub returns-clause-moved : goal.returns-clause-moved
returns-clause-moved c = running_moved

pub returns-clause-typed : goal.returns-clause-typed
returns-clause-typed c = running_typed
