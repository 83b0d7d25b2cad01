-- The run meets each premise.
use Rattle.dm_sound.proofs.ExampleLemmas.{running_typed, running_begins}
use Rattle.dm_sound.proofs.examples.typed_beginning.Goals as goal

pub returns-clause-program : goal.returns-clause-program
returns-clause-program c = running_typed

pub returns-clause-begins : goal.returns-clause-begins
returns-clause-begins c = running_begins
