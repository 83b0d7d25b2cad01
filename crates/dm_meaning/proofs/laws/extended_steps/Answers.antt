use Rattle.dm_meaning.proofs.ExtendLemmas.{operate_same}
use Rattle.dm_meaning.proofs.laws.extended_steps.Goals as goal

pub returns : goal.returns
returns c = operate_same
