use Rattle.dm_places.proofs.ReadingLemmas.{unit-lies}
use Rattle.dm_places.proofs.laws.refusals_lie_in_files.Goals as goal

pub returns : goal.returns
returns c files unit old new refusal is starts readable = unit-lies files unit old new starts readable refusal is
