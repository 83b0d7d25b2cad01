-- What is beside the place and isn't gone through is beside the expression that is come to.
use Rattle.std.proofs.Common.{◌≡◌, ℕ, Some, slice_get}
use Rattle.dm_tree.specs.Units.{TypedUnit}
use Rattle.dm_effect.specs.Entities.{writes}
use Rattle.dm_sites.specs.Sites.{Site, sites_of_unit}
use Rattle.dm_around.specs.Surroundings.{any_beside}
use Rattle.dm_around.specs.Writes.{AreStores}
use Rattle.dm_around.proofs.beside.is_written_beside.Given as goal

abbrev pub invariant-loop-link : goal.invariant-loop-link
invariant-loop-link l =
    (one : TypedUnit) (d : ℕ) (site : Site) → AreStores one d l.row l.ends l.links → slice_get (sites_of_unit one) l.fn.number ≡ Some site
    → (here : Site) × (slice_get (sites_of_unit one) l.at ≡ Some here) × (any_beside (writes d) site ≡ any_beside (writes d) here)

abbrev pub decreases-loop-link : goal.decreases-loop-link
decreases-loop-link l = l.at
