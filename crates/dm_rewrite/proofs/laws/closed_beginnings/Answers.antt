use Rattle.dm_rewrite.proofs.ClosedStartLemmas.{unreached_start}
use Rattle.dm_rewrite.proofs.laws.closed_beginnings.Goals as goal

pub returns : goal.returns
returns c = unreached_start
