use Rattle.dm_sound.proofs.ExampleLemmas.{table_sound}
use Rattle.dm_refine.proofs.ConstantExample as example
use Rattle.dm_refine.proofs.examples.a_constant_refines.Goals as goal

pub returns-clause-old_typed : goal.returns-clause-old_typed
returns-clause-old_typed c = example.old_typed

pub returns-clause-new_typed : goal.returns-clause-new_typed
returns-clause-new_typed c = example.new_typed

pub returns-clause-table : goal.returns-clause-table
returns-clause-table c = table_sound
