-- Types round other types: arrays of arrays, and what array and const-qualified types take.
--     arrayed lengths type      the array of arrays with these lengths from the outside inwards
--     Repeats table outer inner length      the outer type takes as much as so many of the inner one
use Rattle.std.specs.Prelude.{◌≡◌, ℕ, ◌*◌, ◌<◌, List, [], ◌∷◌, Option, Some, option_map}
use Rattle.dm_type.specs.declared.shape.Shape.{Shape}
use Rattle.dm_type.specs.declared.shape.Shape.TheVariants.{Void, Integer, Pointer, Array, Struct, Function, Const}
use Rattle.dm_type.specs.CTypes.{CType, array}
use Rattle.dm_type.specs.Tables.{Table}
use Rattle.dm_type.specs.Layouts.{layout_of, times}

abbrev pub arrayed : List (Option ℕ) → CType → CType
arrayed [] type = type
arrayed (length ∷ lengths) type = array (arrayed lengths type) length

-- so many of so many
abbrev pub scaled : ℕ → Option ℕ → Option ℕ
scaled count length = option_map (λ n. count * n) length

abbrev pub Repeats : Table → CType → CType → Option ℕ → Type 0
Repeats table outer inner length =
    (count : ℕ) → 0 < count → times (Some count) (layout_of table outer) ≡ times (scaled count length) (layout_of table inner)

-- the shape is no array
abbrev pub IsNoArray : Shape → Type 0
IsNoArray Void = Unit {0}
IsNoArray (Integer kind) = Unit {0}
IsNoArray (Pointer id) = Unit {0}
IsNoArray (Array id length) = ⊥
IsNoArray (Struct number) = Unit {0}
IsNoArray (Function result parameters) = Unit {0}
IsNoArray (Const id) = Unit {0}

-- it is neither an array nor const
abbrev pub IsOwn : Shape → Type 0
IsOwn Void = Unit {0}
IsOwn (Integer kind) = Unit {0}
IsOwn (Pointer id) = Unit {0}
IsOwn (Array id length) = ⊥
IsOwn (Struct number) = Unit {0}
IsOwn (Function result parameters) = Unit {0}
IsOwn (Const id) = ⊥
