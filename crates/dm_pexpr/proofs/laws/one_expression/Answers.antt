use Rattle.std.proofs.Common.{sym, ◌∙◌}
use Rattle.dm_pexpr.proofs.Closings.{expression-read}
use Rattle.dm_pexpr.proofs.Soundness.{inside}
use Rattle.dm_pexpr.proofs.laws.one_expression.Goals as goal

-- both are what is read there
pub returns : goal.returns
returns c source names at a b first second = inside a b (sym (expression-read source names at a first) ∙ expression-read source names at b second)
