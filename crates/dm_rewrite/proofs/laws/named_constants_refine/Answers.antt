use Rattle.dm_rewrite.proofs.NamedStartLemmas.{named_constants_refine}
use Rattle.dm_rewrite.proofs.laws.named_constants_refine.Goals as goal

pub returns : goal.returns
returns c = named_constants_refine
