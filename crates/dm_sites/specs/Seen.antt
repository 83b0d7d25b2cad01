-- What a place of the code stands for.
--     seen types sites site      the place, where these are all places of its unit
--     path_at sites n      the way to the place with this number
use Rattle.std.specs.Prelude.{ℕ, List, [], ◌∷◌, ◌++◌, slice_get, Option, Some, None}
use Rattle.std.specs.Option.{option_map_or}
use Rattle.dm_type.specs.Tables.{Table}
use Rattle.dm_tree.specs.Paths.{Path}
use Rattle.dm_tree.specs.Views.{view}
use Rattle.dm_sites.specs.declared.site.Above.{Above}
use Rattle.dm_sites.specs.declared.site.Site.{Site as CodeSite}
use Rattle.dm_sites.specs.Sites.{Site}

abbrev pub path_of : Site → Path
path_of site = site.path

abbrev pub path_at : List Site → ℕ → Path
path_at sites n = option_map_or path_of (slice_get sites n) []

abbrev pub path_below : List Site → Option Above → Path
path_below sites None = []
path_below sites (Some above) = path_at sites above.site ++ above.part ∷ []

abbrev pub seen : Table → List Site → CodeSite → Site
seen types sites site = record {
  tree = view types site.tree.now;
  full = view types site.full.now;
  path = path_below sites site.above;
  apart = site.apart;
  constant = site.constant;
  fixed = site.fixed;
  unevaluated = site.unevaluated;
}

-- where the place with this number stands in its full expression
abbrev pub above_in : Option CodeSite → Option Above
above_in None = None
above_in (Some site) = site.above

abbrev pub above_at : List CodeSite → ℕ → Option Above
above_at sites n = above_in (slice_get sites n)
