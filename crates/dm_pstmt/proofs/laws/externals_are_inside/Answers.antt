use Rattle.dm_pstmt.proofs.Inside.{stands-inside}
use Rattle.dm_pstmt.proofs.laws.externals_are_inside.Goals as goal

pub returns : goal.returns
returns c = stands-inside
