use Rattle.dm_rewrite.proofs.ClosedRunLemmas.{run_clear}
use Rattle.dm_rewrite.proofs.laws.closed_objects.Goals as goal

pub returns : goal.returns
returns c = run_clear
