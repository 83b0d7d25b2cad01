use Rattle.dm_search.specs.Joining.{places}
use Rattle.dm_search.proofs.NormalLemmas.{candidates-normal}
use Rattle.dm_search.proofs.laws.searched_names_are_normal.Goals as goal

pub returns : goal.returns
returns c = λ name from quoted include. candidates-normal name (places from quoted include)
