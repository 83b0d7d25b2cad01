use Rattle.dm_local.proofs.KeptLemmas.{read-again, grown-keeps, slots-behind}
use Rattle.dm_local.proofs.laws.readings_stay_known.Goals as goal

pub returns : goal.returns
returns c files unit old new known reading apart is of grows served =
    let slots = slots-behind files unit old new reading.pp of.0 of.1 is.1 in
    (is.0, read-again files files unit old new known of.0 of.1 reading.pp is.1 (grown-keeps files old new known apart reading.pp.files slots grows served), is.2)
