-- What is noted of the places of a unit.
--     AreNoted unit noises ends links rows ways      whether something beside each place isn't quiet; where the places inside each end, which
--         expressions above leave their operands unsequenced, which places store into each object, and the way to each place
use Rattle.std.specs.Prelude.{◌≡◌, ℕ, ◌<◌, List, Option, Some, slice_get}
use Rattle.std.specs.List.Sorted.{IsNonDecreasingBy}
use Rattle.dm_type.specs.Tables.{Table}
use Rattle.dm_tree.specs.declared.unit.CoreUnit.{CoreUnit}
use Rattle.dm_tree.specs.TypeNumbers.{IsTypedUnit}
use Rattle.dm_tree.specs.Views.{view_of_unit}
use Rattle.dm_sites.specs.Sites.{Site, sites_of_unit}
use Rattle.dm_around.specs.declared.links.Link.{Link}
use Rattle.dm_around.specs.declared.noise.Noise.{Noise}
use Rattle.dm_around.specs.Noises.{is_noisy, noise_at}
use Rattle.dm_around.specs.Surroundings.{any_beside, link_at}
use Rattle.dm_around.specs.declared.ways.Way.{Way}
use Rattle.dm_around.specs.Ways.{AreWays}
use Rattle.dm_around.specs.Writes.{AreStores, row_at}

pub record AreNoted (one : CoreUnit) (noises : List Noise) (ends : List ℕ) (links : List (Option Link)) (rows : List (List ℕ)) (ways : List Way) : Type 0 where
  pub noisy : (types : Table) → IsTypedUnit types one → (n : ℕ) (site : Site) → slice_get (sites_of_unit (view_of_unit types one)) n ≡ Some site
      → (noise_at noises n).beside ≡ any_beside (is_noisy (view_of_unit types one)) site
  pub stores : (types : Table) → IsTypedUnit types one → (d : ℕ) → AreStores (view_of_unit types one) d (row_at rows d) ends links
  pub led : (types : Table) → IsTypedUnit types one → AreWays (sites_of_unit (view_of_unit types one)) ways
  pub ascending : (d : ℕ) → IsNonDecreasingBy (λ (n : ℕ). n) (row_at rows d)
  pub before : (n : ℕ) (link : Link) → link_at links n ≡ Some link → link.above < n
