use Rattle.dm_central.proofs.AgreementLemmas.{run_beside_less}
use Rattle.dm_central.proofs.laws.agreement_beside_less.Goals as goal

pub returns : goal.returns
returns c = λ change stage mode world beside less run other k h. run_beside_less change stage mode world beside less k run other h
