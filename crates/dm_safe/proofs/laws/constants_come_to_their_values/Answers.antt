use Rattle.dm_safe.proofs.ConstantLemmas.{constant_comes}
use Rattle.dm_safe.proofs.laws.constants_come_to_their_values.Goals as goal

pub returns : goal.returns
returns c = constant_comes
