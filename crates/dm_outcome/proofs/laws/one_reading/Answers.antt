use Rattle.dm_outcome.proofs.LayerLemmas.{one-layers}
use Rattle.dm_outcome.proofs.laws.one_reading.Goals as goal

pub returns : goal.returns
returns c tokens one other first second = one-layers c.one_syntax.ensures c.one_refusal.ensures c.no_refusal_of_syntax.ensures tokens one other first second
