-- A step of `y++` in a world with x and y.
use Rattle.std.specs.Prelude.{refl, [], ◌∷◌}
use Rattle.std.proofs.Common.{inl, inr, ap, sym, ◌∙◌}
use Rattle.dm_meaning.specs.Memory.{contents_at}
use Rattle.dm_rewrite.specs.Effects.{on_object, ChangesOnly}
use Rattle.dm_rewrite.specs.Examples as examples
use Rattle.dm_rewrite.specs.KeptMemory.{KeepsPlaces}
use Rattle.dm_rewrite.proofs.EffectLemmas.{step_keeps}

-- it changes y alone
pub changes : ChangesOnly examples.stage (on_object 2 ∷ []) (examples.world 5) (examples.world 6)
changes = step_keeps examples.stage (examples.world 5) [] examples.counting_y examples.y_counted (examples.world 6) (inl refl)

-- and x holds what it held
pub places : KeepsPlaces (examples.world 5).memory (examples.world 6).memory examples.x_read.reads
places at (inl e) there = ap (contents_at (examples.world 6).memory) e ∙ sym (ap (contents_at (examples.world 5).memory) e)
places at (inr k) there = absurd k
