use Rattle.dm_meaning.proofs.LifeLemmas.{step_keeps}
use Rattle.dm_meaning.proofs.laws.own_lifetimes.Goals as goal

pub returns : goal.returns
returns c = step_keeps
