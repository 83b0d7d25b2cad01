use Rattle.dm_scoped.proofs.SpanUnitLemmas.{typed-stmt-laid}
use Rattle.dm_scoped.proofs.laws.statements_are_laid_out.Goals as goal

pub returns : goal.returns
returns c = typed-stmt-laid
