use Rattle.dm_estanding.proofs.LawfulLemmas.{declared-lawful}
use Rattle.dm_estanding.proofs.laws.declarators_stay_lawful.Goals as goal

pub returns : goal.returns
returns c = λ standing entry defines lawful below may entries proper. declared-lawful standing entry defines lawful entries proper below may
