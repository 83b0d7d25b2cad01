-- Those behind the ones that are left are found by the parameter and the occurrence.
use Rattle.std.proofs.Common.{◌≡◌, ◌++◌, List, length}
use Rattle.dm_runs.specs.declared.named.Named.{Named}
use Rattle.dm_runs.specs.Lookups.{ArePlaces}
use Rattle.dm_runs.proofs.origins.places_of.Given as goal

abbrev pub invariant-loop-last : goal.invariant-loop-last
invariant-loop-last l = (behind : List Named) × (l.left ++ behind ≡ l.named) × ArePlaces l.places behind

abbrev pub decreases-loop-last : goal.decreases-loop-last
decreases-loop-last l = length l.left
