use Rattle.dm_kept.proofs.CurrentLemmas.{project-current}
use Rattle.dm_kept.proofs.laws.first_readings_are_current.Goals as goal

pub returns : goal.returns
returns c files units old new readings begun of is = let current = project-current files units old new readings begun is of in (current.loader, current.are, current.follows)
