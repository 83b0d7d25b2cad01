use Rattle.std.proofs.Common.{inl}
use Rattle.dm_rewrite.proofs.ShrinkEffectLemmas.{run_calm}
use Rattle.dm_rewrite.proofs.laws.effects_shrink.Goals as goal

pub returns : goal.returns
returns c = λ stage world locks clear run closed move k. run_calm stage world locks clear run (λ n a. inl (closed n a)) move k
