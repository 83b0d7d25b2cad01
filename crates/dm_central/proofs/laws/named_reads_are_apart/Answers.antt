use Rattle.dm_central.proofs.ApartLemmas.{apart_by_names}
use Rattle.dm_central.proofs.laws.named_reads_are_apart.Goals as goal

pub returns : goal.returns
returns c = apart_by_names
