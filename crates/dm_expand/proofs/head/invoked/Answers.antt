use Rattle.dm_expand.proofs.HeadLemmas.{stays-same}
use Rattle.dm_expand.proofs.head.invoked.Goals as goal

pub returns-in_ok-head-in-None-clause-stays : goal.returns-in_ok-head-in-None-clause-stays
returns-in_ok-head-in-None-clause-stays c = stays-same c.in_ok-head-in-None.head _
