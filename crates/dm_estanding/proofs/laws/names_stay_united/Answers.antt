use Rattle.dm_estanding.proofs.UnitedLemmas.{united-still}
use Rattle.dm_estanding.proofs.laws.names_stay_united.Goals as goal

pub returns : goal.returns
returns c = λ standing entry defines lawful below. united-still standing entry lawful below defines
