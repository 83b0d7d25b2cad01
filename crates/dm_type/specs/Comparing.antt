-- What a comparison of two types says.
--     Means table compared truth      what is known of whether two types are compatible
--     match_lists types others      types are compatible one by one, without the const of each
use Rattle.std.specs.Prelude.{◌≡◌, ℕ, ◌<◌, Bool, true, false, ◌&&◌, List, [], ◌∷◌}
use Rattle.dm_type.specs.declared.alike.Compared.{Compared}
use Rattle.dm_type.specs.declared.alike.Compared.TheVariants.{Known, Like}
use Rattle.dm_type.specs.CTypes.{CType, bare}
use Rattle.dm_type.specs.Tables.{Table, IsId, type_of}
use Rattle.dm_type.specs.Alike.{are_compatible}

abbrev pub Means : Table → Compared → Bool → Type 0
Means table (Known answer) truth = truth ≡ answer
Means table (Like a b) truth = IsId table a × IsId table b × (truth ≡ are_compatible (type_of table a) (type_of table b))

-- what is left to compare is below a limit
abbrev pub IsUnder : ℕ → Compared → Type 0
IsUnder limit (Known answer) = Unit {0}
IsUnder limit (Like a b) = a < limit

abbrev pub match_lists : List CType → List CType → Bool
match_lists [] [] = true
match_lists (type ∷ types) (other ∷ others) = are_compatible (bare type) (bare other) && match_lists types others
match_lists types others = false
