use Rattle.dm_defined.proofs.SameLemmas.{one_made}
use Rattle.dm_defined.proofs.laws.one_definition.Goals as goal

pub returns : goal.returns
returns c file bytes one other made again same = one_made file bytes one other made again same
