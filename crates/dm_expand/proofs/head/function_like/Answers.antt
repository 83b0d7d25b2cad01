use Rattle.dm_expand.proofs.HeadLemmas.{stays-nothing}
use Rattle.dm_expand.proofs.head.function_like.Goals as goal

pub returns-clause-stays : goal.returns-clause-stays
returns-clause-stays c = stays-nothing c.in_ok-head.head _ _ c.in_ok-head.ensures.puts_nothing
