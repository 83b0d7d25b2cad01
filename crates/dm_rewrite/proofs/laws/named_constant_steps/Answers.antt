use Rattle.dm_rewrite.proofs.NamedConstantLemmas.{run_matched}
use Rattle.dm_rewrite.proofs.laws.named_constant_steps.Goals as goal

pub returns : goal.returns
returns c = run_matched
