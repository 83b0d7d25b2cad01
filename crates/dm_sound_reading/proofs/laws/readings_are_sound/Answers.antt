use Rattle.dm_reading.specs.Layered.{layers_of}
use Rattle.dm_sound_reading.proofs.ReadingLemmas.{types_sound, well_typed, unit_scoped, unit_laid, program_typed}
use Rattle.dm_sound_reading.proofs.laws.readings_are_sound.Goals as goal

pub returns-clause-table : goal.returns-clause-table
returns-clause-table c reading h = types_sound reading.pp.tokens (layers_of reading) h

pub returns-clause-unit : goal.returns-clause-unit
returns-clause-unit c reading h = well_typed reading.pp.tokens (layers_of reading) h

pub returns-clause-scopes : goal.returns-clause-scopes
returns-clause-scopes c reading h = unit_scoped reading.pp.tokens (layers_of reading) h

pub returns-clause-layout : goal.returns-clause-layout
returns-clause-layout c reading h = unit_laid reading.pp.tokens (layers_of reading) h

pub returns-clause-program : goal.returns-clause-program
returns-clause-program c reading h = program_typed reading.pp.tokens (layers_of reading) h
