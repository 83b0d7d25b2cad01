use Rattle.dm_central.proofs.RefineLemmas.{calls_refine}
use Rattle.dm_central.proofs.WholeLemmas.{no_statements}
use Rattle.dm_central.proofs.laws.calls_refine.Goals as goal

pub returns : goal.returns
returns c = λ change calling whole. calls_refine change calling (no_statements change.old whole)
