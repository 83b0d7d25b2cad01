-- The unit meets each premise.
use Rattle.std.specs.Prelude.{refl}
use Rattle.dm_sound.proofs.ExampleLemmas.{table_sound, unit_fits, unit_proper}
use Rattle.dm_sound.proofs.examples.typed_unit.Goals as goal

pub returns-clause-table : goal.returns-clause-table
returns-clause-table c = table_sound

pub returns-clause-typed : goal.returns-clause-typed
returns-clause-typed c = unit_fits

pub returns-clause-proper : goal.returns-clause-proper
returns-clause-proper c = unit_proper

pub returns-clause-program : goal.returns-clause-program
returns-clause-program c = refl
