use Rattle.dm_places.proofs.ReadingLemmas.{reading-lies}
use Rattle.dm_places.proofs.laws.readings_are_refused_in_files.Goals as goal

pub returns : goal.returns
returns c files unit old new refusal is starts readable = reading-lies files unit old new starts readable refusal is
