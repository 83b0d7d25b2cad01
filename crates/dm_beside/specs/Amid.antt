-- The place of a run among those of its unit.
--     unit_at types unit, places_at types unit      the unit over some types, and its places
--     run_at types unit site      a place of the code, as one of these
--     IsPlaced types unit site n      in a typed unit it is the place with this number
use Rattle.std.specs.Prelude.{◌≡◌, ℕ, List, Some, slice_get}
use Rattle.dm_type.specs.Tables.{Table}
use Rattle.dm_tree.specs.declared.unit.CoreUnit.{CoreUnit}
use Rattle.dm_tree.specs.TypeNumbers.{IsTypedUnit}
use Rattle.dm_tree.specs.Units.{TypedUnit}
use Rattle.dm_tree.specs.Views.{view_of_unit}
use Rattle.dm_sites.specs.declared.site.Site.{Site as CodeSite}
use Rattle.dm_sites.specs.Seen.{seen}
use Rattle.dm_sites.specs.Sites.{Site, sites_of_unit}

abbrev pub unit_at : Table → CoreUnit → TypedUnit
unit_at types one = view_of_unit types one

abbrev pub places_at : Table → CoreUnit → List Site
places_at types one = sites_of_unit (unit_at types one)

abbrev pub run_at : Table → CoreUnit → CodeSite → Site
run_at types one site = seen types (places_at types one) site

pub record IsPlaced (types : Table) (one : CoreUnit) (site : CodeSite) (n : ℕ) : Type 0 where
  pub typed : IsTypedUnit types one
  pub there : slice_get (places_at types one) n ≡ Some (run_at types one site)
