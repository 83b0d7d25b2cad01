use Rattle.dm_rewrite.proofs.ComputedKeptLemmas.{kept_computation}
use Rattle.dm_rewrite.proofs.laws.kept_computations.Goals as goal

pub returns : goal.returns
returns c = kept_computation
