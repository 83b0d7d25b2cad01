use Rattle.dm_safe.proofs.SafeLemmas.{built_comes}
use Rattle.dm_safe.proofs.laws.safe_trees_come_to_numbers.Goals as goal

pub returns : goal.returns
returns c = built_comes
