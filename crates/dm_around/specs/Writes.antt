-- Which places of a unit store into an object by its name (6.5.16, 6.5.2.4, 6.5.3.1).
--     numbers_of test n items      the numbers, from n on, of the items that pass
--     is_between from to n      a number is from this one on, and below that one
--     AreWrites sites rows      by the number of an object, those of the places that store into it
use Rattle.std.specs.Prelude.{◌≡◌, ℕ, suc, Bool, false, ◌&&◌, nat_le, nat_lt, List, [], ◌∷◌, Option, Some, None, slice_get, if◌then◌else◌}
use Rattle.dm_tree.specs.Units.{TypedUnit}
use Rattle.dm_effect.specs.Entities.{writes_here}
use Rattle.dm_sites.specs.Sites.{Site, sites_of_unit}
use Rattle.dm_around.specs.declared.links.Link.{Link}
use Rattle.dm_around.specs.Places.{ArePlain, AreEnds}
use Rattle.dm_around.specs.Surroundings.{AreLinks}

abbrev pub numbers_of : {A : Type 0} → (A → Bool) → ℕ → List A → List ℕ
numbers_of test n [] = []
numbers_of test n (x ∷ xs) = if test x then n ∷ numbers_of test (suc n) xs else numbers_of test (suc n) xs

abbrev pub is_between : ℕ → ℕ → ℕ → Bool
is_between from to n = nat_le from n && nat_lt n to

-- a number is there, and below another
abbrev pub is_below : ℕ → Option ℕ → Bool
is_below to None = false
is_below to (Some n) = nat_lt n to

abbrev pub row_by : Option (List ℕ) → List ℕ
row_by (Some row) = row
row_by None = []

abbrev pub row_at : List (List ℕ) → ℕ → List ℕ
row_at rows d = row_by (slice_get rows d)

abbrev pub writes_at : ℕ → Site → Bool
writes_at d site = writes_here d site.tree

abbrev pub AreWrites : List Site → List (List ℕ) → Type 0
AreWrites sites rows = (d : ℕ) → row_at rows d ≡ numbers_of (writes_at d) 0 sites

-- what is noted of the places of a unit, and of those that store into one object
pub record AreStores (one : TypedUnit) (d : ℕ) (row ends : List ℕ) (links : List (Option Link)) : Type 0 where
  pub plain : ArePlain (sites_of_unit one)
  pub ended : AreEnds (sites_of_unit one) ends
  pub linked : AreLinks (sites_of_unit one) links
  pub stored : row ≡ numbers_of (writes_at d) 0 (sites_of_unit one)
