use Rattle.dm_settled.proofs.ApartLemmas.{body_spares}
use Rattle.dm_settled.proofs.laws.settled_bodies_spare.Goals as goal

pub returns : goal.returns
returns c = body_spares
