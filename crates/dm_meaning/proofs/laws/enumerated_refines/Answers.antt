use Rattle.dm_meaning.proofs.StartLemmas.{enumerated_refines}
use Rattle.dm_meaning.proofs.laws.enumerated_refines.Goals as goal

pub returns : goal.returns
returns c = enumerated_refines
