use Rattle.dm_places.proofs.ReadingLemmas.{project-lies}
use Rattle.dm_places.proofs.laws.projects_are_refused_in_files.Goals as goal

pub returns : goal.returns
returns c files units begun old new refusal reads starts readable = project-lies files refusal units begun old new starts readable reads
