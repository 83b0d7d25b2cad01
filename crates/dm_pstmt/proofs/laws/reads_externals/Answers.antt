use Rattle.dm_pstmt.proofs.SoundExternals.{external-found}
use Rattle.dm_pstmt.proofs.CompleteExternals.{external-only}
use Rattle.dm_pstmt.proofs.laws.reads_externals.Goals as goal

pub returns-clause-found : goal.returns-clause-found
returns-clause-found c = external-found

pub returns-clause-only : goal.returns-clause-only
returns-clause-only c = external-only
