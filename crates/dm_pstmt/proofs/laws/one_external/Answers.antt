use Rattle.std.proofs.Common.{sym, ◌∙◌}
use Rattle.dm_pexpr.proofs.Soundness.{inside}
use Rattle.dm_pstmt.proofs.CompleteExternals.{external-only}
use Rattle.dm_pstmt.proofs.laws.one_external.Goals as goal

-- both are what is read there
pub returns : goal.returns
returns c source names at a b first second = inside a b (sym (external-only source names at a first) ∙ external-only source names at b second)
