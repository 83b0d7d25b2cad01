use Rattle.dm_scoped.proofs.SpanUnitLemmas.{units-laid}
use Rattle.dm_scoped.proofs.laws.units_are_laid_out.Goals as goal

pub returns : goal.returns
returns c = units-laid
