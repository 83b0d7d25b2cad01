use Rattle.dm_search.proofs.CallLemmas.{finds-first}
use Rattle.dm_search.proofs.laws.the_first_file_is_found.Goals as goal

pub returns : goal.returns
returns c = finds-first
