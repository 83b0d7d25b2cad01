use Rattle.dm_central.proofs.RefineLemmas.{known_calls_refine}
use Rattle.dm_central.proofs.WholeLemmas.{no_statements}
use Rattle.dm_central.proofs.laws.known_calls_refine.Goals as goal

pub returns : goal.returns
returns c = λ change closed quiet calling only silent whole. known_calls_refine change closed quiet calling only silent (no_statements change.old whole)
