use Rattle.dm_rewrite.proofs.NamedUnitLemmas.{named_units_refine}
use Rattle.dm_rewrite.proofs.laws.named_units_refine.Goals as goal

pub returns : goal.returns
returns c = named_units_refine
