-- How far places lie apart, by what is left of their paths.
use Rattle.std.specs.Prelude.{ℕ, ℤ, [], ◌∷◌, Option, Some, None, if◌then◌else◌}
use Rattle.dm_type.specs.CTypes.{CType, array}
use Rattle.dm_meaning.specs.Objects.{apart, agree_without_const, distance_alone}
use Rattle.dm_meaning.specs.Values.{past, Path}

-- two elements of an array
abbrev pub distance_in_array : CType → CType → ℕ → ℕ → Option ℤ
distance_in_array (array type length) target m n = if agree_without_const type target then Some (apart m n) else None
distance_in_array type target m n = None

-- an object, or one past it, as an array of one
abbrev pub index_at_end : Path → Option ℕ
index_at_end [] = Some 0
index_at_end (past ∷ []) = Some 1
index_at_end path = None

abbrev pub distance_by : CType → CType → Option ℕ → Option ℕ → Option ℤ
distance_by type target (Some m) (Some n) = distance_alone type target m n
distance_by type target m n = None

abbrev pub distance_at_end : CType → CType → Path → Path → Option ℤ
distance_at_end type target p q = distance_by type target (index_at_end p) (index_at_end q)
