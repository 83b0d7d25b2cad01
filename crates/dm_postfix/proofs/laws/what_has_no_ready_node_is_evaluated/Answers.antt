use Rattle.dm_postfix.proofs.BegunLemmas.{none-ready}
use Rattle.dm_postfix.proofs.laws.what_has_no_ready_node_is_evaluated.Goals as goal

pub returns : goal.returns
returns c = none-ready
