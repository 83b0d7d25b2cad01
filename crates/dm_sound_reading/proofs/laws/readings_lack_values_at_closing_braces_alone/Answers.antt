use Rattle.dm_reading.specs.Layered.{layers_of}
use Rattle.dm_sound_reading.proofs.ReadingLemmas.{results_typed, values_lack}
use Rattle.dm_sound_reading.proofs.laws.readings_lack_values_at_closing_braces_alone.Goals as goal

pub returns-clause-results : goal.returns-clause-results
returns-clause-results c reading h = results_typed reading.pp.tokens (layers_of reading) h

pub returns-clause-steps : goal.returns-clause-steps
returns-clause-steps c reading input n state other h = values_lack reading.pp.tokens (layers_of reading) h input n state other
