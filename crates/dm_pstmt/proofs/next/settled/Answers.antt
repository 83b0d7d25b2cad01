use Rattle.dm_pstmt.proofs.NextSteps.{keeps-all}
use Rattle.dm_pstmt.proofs.next.settled.Goals as goal

pub returns-in_err-found-clause-kept : goal.returns-in_err-found-clause-kept
returns-in_err-found-clause-kept c = keeps-all c.args.typedefs.now c.from_residual.result
