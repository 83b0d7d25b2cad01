-- The only step.
use Rattle.std.specs.Prelude.{refl}
use Rattle.std.proofs.Common.{inl}
use Rattle.dm_sound.proofs.examples.overflowing_count.Goals as goal

pub returns : goal.returns
returns c = inl refl
