use Rattle.dm_estanding.proofs.WithinLemmas.{within-on}
use Rattle.dm_estanding.proofs.laws.changes_add_up.Goals as goal

pub returns : goal.returns
returns c = within-on
