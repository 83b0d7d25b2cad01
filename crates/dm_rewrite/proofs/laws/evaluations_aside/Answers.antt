use Rattle.dm_rewrite.proofs.AsideLemmas.{aside_step, part_foreseen, claims_kept}
use Rattle.dm_rewrite.proofs.laws.evaluations_aside.Goals as goal

pub returns : goal.returns
returns c = record { each = aside_step; part = part_foreseen; kept = claims_kept }
