use Rattle.dm_meaning.proofs.SpareStateLemmas.{settled_beginnings}
use Rattle.dm_meaning.proofs.laws.settled_beginnings.Goals as goal

pub returns : goal.returns
returns c = settled_beginnings
