use Rattle.dm_rewrite.proofs.PlainLemmas.{operate_plains}
use Rattle.dm_rewrite.proofs.laws.plain_steps.Goals as goal

pub returns : goal.returns
returns c = operate_plains
