use Rattle.dm_central.proofs.AgreementLemmas.{begun_agrees}
use Rattle.dm_central.proofs.laws.begun_agreement.Goals as goal

pub returns : goal.returns
returns c = λ change stage safe world beside tree other h. begun_agrees change stage safe world beside tree other h
