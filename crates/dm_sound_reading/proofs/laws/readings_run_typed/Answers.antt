use Rattle.dm_reading.specs.Layered.{layers_of}
use Rattle.dm_sound_reading.proofs.ReadingLemmas.{runs_typed}
use Rattle.dm_sound_reading.proofs.laws.readings_run_typed.Goals as goal

pub returns : goal.returns
returns c reading input n state h = runs_typed reading.pp.tokens (layers_of reading) h input n state
