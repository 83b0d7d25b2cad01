-- The unit and its run meet each premise.
use Rattle.dm_sound.proofs.ExampleLemmas.{types_sound, core_typed, core_run}
use Rattle.dm_sound.proofs.examples.typed_run.Goals as goal

pub returns-clause-table : goal.returns-clause-table
returns-clause-table c = types_sound

pub returns-clause-unit : goal.returns-clause-unit
returns-clause-unit c = core_typed

pub returns-clause-run : goal.returns-clause-run
returns-clause-run c = core_run
