use Rattle.dm_postfix.proofs.HoleLemmas.{locks-items}
use Rattle.dm_postfix.proofs.laws.locks_are_those_of_results.Goals as goal

pub returns : goal.returns
returns c = locks-items
