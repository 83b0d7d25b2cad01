use Rattle.dm_central.proofs.AgreementLemmas.{run_kept}
use Rattle.dm_central.proofs.laws.agreement_kept.Goals as goal

pub returns : goal.returns
returns c = λ change stage mode world later beside run other k h. run_kept change stage mode world later beside run other k h
