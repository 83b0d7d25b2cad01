use Rattle.dm_places.proofs.ReadingLemmas.{tokens-lie}
use Rattle.dm_places.proofs.laws.tokens_lie_in_files.Goals as goal

pub returns : goal.returns
returns c files unit old new pp is starts readable = tokens-lie files unit old new starts readable pp is
