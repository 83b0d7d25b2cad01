use Rattle.dm_sound.proofs.ExampleLemmas.{tables_same}
use Rattle.dm_same.proofs.ExampleLemmas.{unit_run}
use Rattle.dm_same.proofs.examples.same_program_over_two_tables.Goals as goal

pub returns-clause-structs : goal.returns-clause-structs
returns-clause-structs c = tables_same

pub returns-clause-run : goal.returns-clause-run
returns-clause-run c = unit_run
