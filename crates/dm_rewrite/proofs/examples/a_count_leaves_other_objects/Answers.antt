-- The tree and the two worlds meet each premise of the laws.
use Rattle.std.specs.Prelude.{refl}
use Rattle.std.proofs.Common.{inl}
use Rattle.dm_rewrite.specs.Examples as examples
use Rattle.dm_rewrite.proofs.ComputedKeptLemmas.{kept_computation}
use Rattle.dm_rewrite.proofs.CountExample.{changes, places}
use Rattle.dm_rewrite.proofs.examples.a_count_leaves_other_objects.Goals as goal

pub returns-clause-step : goal.returns-clause-step
returns-clause-step c = inl refl

pub returns-clause-changes : goal.returns-clause-changes
returns-clause-changes c = changes

pub returns-clause-places : goal.returns-clause-places
returns-clause-places c = places

pub returns-clause-behind : goal.returns-clause-behind
returns-clause-behind c =
    kept_computation examples.stage.scene (examples.world 5) (examples.world 6) changes.same_objects examples.reading_x (refl, ((refl, tt), tt))
    examples.x_read refl places
