use Rattle.dm_estanding.proofs.LawfulLemmas.{beginning-lawful}
use Rattle.dm_estanding.proofs.laws.a_unit_begins_lawfully.Goals as goal

pub returns : goal.returns
returns c = beginning-lawful
