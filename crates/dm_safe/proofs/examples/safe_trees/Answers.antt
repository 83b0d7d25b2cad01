use Rattle.std.specs.Prelude.{refl}
use Rattle.dm_sound.proofs.ExampleLemmas as sound
use Rattle.dm_safe.proofs.ExampleLemmas as example
use Rattle.dm_safe.proofs.examples.safe_trees.Goals as goal

pub returns-clause-scope : goal.returns-clause-scope
returns-clause-scope c = sound.program_typed.scope

pub returns-clause-memory : goal.returns-clause-memory
returns-clause-memory c = sound.five_typed

pub returns-clause-number : goal.returns-clause-number
returns-clause-number c = example.five_typed

pub returns-clause-value : goal.returns-clause-value
returns-clause-value c = refl

pub returns-clause-reading : goal.returns-clause-reading
returns-clause-reading c = example.reading_typed

pub returns-clause-built : goal.returns-clause-built
returns-clause-built c = refl

pub returns-clause-holds : goal.returns-clause-holds
returns-clause-holds c = example.holds
