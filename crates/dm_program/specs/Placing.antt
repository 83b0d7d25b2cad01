-- Where objects of static storage duration stand among those that were found, by the numbers of their declarations.
--     place_of places d      the place of a number
--     ArePlaced places statics      each object has its place, and no other number has one
use Rattle.std.specs.Prelude.{◌≡◌, ℕ, List, Option, Some, None, option_map, slice_get}
use Rattle.dm_program.specs.declared.fixed.Static.{Static}

-- the place of a number, if it has one
abbrev pub place_in : Option (Option ℕ) → Option ℕ
place_in None = None
place_in (Some place) = place

abbrev pub place_of : List (Option ℕ) → ℕ → Option ℕ
place_of places d = place_in (slice_get places d)

-- the number of the declaration of the object at a place
abbrev pub declared_at : List Static → ℕ → Option ℕ
declared_at statics i = option_map (λ (one : Static). one.declared) (slice_get statics i)

-- an object stands at a place exactly where the number of its declaration has that place
pub record ArePlaced (places : List (Option ℕ)) (statics : List Static) : Type 0 where
  pub there : (d i : ℕ) → place_of places d ≡ Some i → declared_at statics i ≡ Some d
  pub back : (i : ℕ) (one : Static) → slice_get statics i ≡ Some one → place_of places one.declared ≡ Some i
