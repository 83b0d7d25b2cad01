use Rattle.dm_reading.specs.Layered.{layers_of}
use Rattle.dm_declared.proofs.ReadingLemmas.{reading_once}
use Rattle.dm_declared.proofs.laws.readings_declare_once.Goals as goal

pub returns : goal.returns
returns c reading h = reading_once reading.pp.tokens (layers_of reading) h (c.readings_are_sound.ensures.unit reading h)
