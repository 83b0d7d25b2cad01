use Rattle.dm_central.proofs.RefineLemmas.{safe_calls_refine}
use Rattle.dm_central.proofs.WholeLemmas.{no_statements}
use Rattle.dm_central.proofs.laws.safe_calls_refine.Goals as goal

pub returns : goal.returns
returns c = λ change closed quiet safe calling only silent always whole. safe_calls_refine change closed quiet safe calling only silent always (no_statements change.old whole)
