use Rattle.dm_central.proofs.RefineLemmas.{closed_calls_refine}
use Rattle.dm_central.proofs.WholeLemmas.{no_statements}
use Rattle.dm_central.proofs.laws.closed_calls_refine.Goals as goal

pub returns : goal.returns
returns c = λ change closed calling only whole. closed_calls_refine change closed calling only (no_statements change.old whole)
