use Rattle.dm_scoped.proofs.SpanUnitLemmas.{typed-laid}
use Rattle.dm_scoped.proofs.laws.expressions_are_laid_out.Goals as goal

pub returns : goal.returns
returns c = typed-laid
