use Rattle.dm_estanding.proofs.AgreementLemmas.{seen-compatible}
use Rattle.dm_estanding.proofs.laws.redeclared_types_are_compatible.Goals as goal

pub returns : goal.returns
returns c = seen-compatible
