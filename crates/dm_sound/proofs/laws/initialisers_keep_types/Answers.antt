use Rattle.dm_sound.proofs.ListedLemmas.{listed_has, literal_has}
use Rattle.dm_sound.proofs.laws.initialisers_keep_types.Goals as goal

pub returns-clause-listed : goal.returns-clause-listed
returns-clause-listed c = listed_has

pub returns-clause-literal : goal.returns-clause-literal
returns-clause-literal c = literal_has
