use Rattle.dm_rewrite.proofs.EffectLemmas.{step_writes, step_keeps}
use Rattle.dm_rewrite.proofs.laws.effects_of_steps.Goals as goal

pub returns : goal.returns
returns c = record { writes = step_writes; others_stay = step_keeps }
