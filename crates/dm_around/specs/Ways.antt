-- The ways from full expressions to places in them (5.1.2.3p3).
--     FitsWay site way      how long the way to a place is, and from which depth on each part on it comes first
--     AreWays sites ways      by the number of a place, that of the way to it
--     is_in ends whole part      a place is inside another one, or is that one, by the numbers where those inside end
use Rattle.std.specs.Prelude.{◌≡◌, ℕ, ◌+◌, Bool, ◌&&◌, nat_le, nat_lt, List, ◌++◌, length, Option, Some, None, slice_get, if◌then◌else◌}
use Rattle.dm_tree.specs.Paths.{Path, tree_at}
use Rattle.dm_tree.specs.Trees.{Tree, label_of}
use Rattle.dm_effect.specs.Sequencing.{comes_first, is_first}
use Rattle.dm_sites.specs.declared.site.Above.{Above}
use Rattle.dm_sites.specs.Sites.{Site}
use Rattle.dm_around.specs.declared.ways.Way.{Way}
use Rattle.dm_around.specs.Places.{number_at}

-- What stands on the way at some depth evaluates the place's tree in any case, and picks it by nothing, from this depth on.
pub record FitsWay (site : Site) (way : Way) : Type 0 where
  pub long : way.depth ≡ length site.path
  pub first : (before behind : Path) (tree : Tree) → site.path ≡ before ++ behind → tree_at before site.full ≡ Some tree → is_first behind tree ≡ nat_le way.gate (length before)

abbrev pub no_way : Way
no_way = record { depth = 0; gate = 0 }

abbrev pub way_by : Option Way → Way
way_by (Some way) = way
way_by None = no_way

abbrev pub way_at : List Way → ℕ → Way
way_at ways n = way_by (slice_get ways n)

abbrev pub AreWays : List Site → List Way → Type 0
AreWays sites ways = (n : ℕ) (site : Site) → slice_get sites n ≡ Some site → FitsWay site (way_at ways n)

-- one part further, which comes first or not
abbrev pub further : Way → Bool → Way
further way comes = record { depth = way.depth + 1; gate = if comes then way.gate else (way.depth + 1) }

-- that of the next place, by those of the places before it
abbrev pub way_from : Option Site → Way → Option Above → Way
way_from (Some upper) way (Some step) = further way (comes_first (label_of upper.tree) step.part)
way_from upper way step = no_way

abbrev pub way_below : List Site → List Way → Option ℕ → Option Above → Way
way_below sites ways None step = no_way
way_below sites ways (Some above) step = way_from (slice_get sites above) (way_at ways above) step

abbrev pub is_in : List ℕ → ℕ → ℕ → Bool
is_in ends whole part = nat_le whole part && nat_lt part (number_at ends whole)
