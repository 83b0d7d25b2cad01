use Rattle.dm_central.proofs.BodyLemmas.{likeness}
use Rattle.dm_central.proofs.laws.bodies_alike.Goals as goal

pub returns : goal.returns
returns c = likeness
