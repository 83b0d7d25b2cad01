use Rattle.dm_meaning.proofs.PrimLemmas.{prim_same}
use Rattle.dm_meaning.proofs.laws.extended_answers.Goals as goal

pub returns : goal.returns
returns c = prim_same
