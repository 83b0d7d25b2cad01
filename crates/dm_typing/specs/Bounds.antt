-- What holds of the scopes at a place, and of the structs whose members are being read there.
--     AreBelow count scopes      the numbers of declarations in the scopes are below the count
--     AreOpen types begun      none of these structs has its members, and none stands there twice
use Rattle.std.specs.Prelude.{◌≡◌, ℕ, ◌<◌, Bool, true, ◌&&◌, not, IsTrue, List, [], ◌∷◌, length, Some, None, All}
use Rattle.std.specs.FinMap as map
use Rattle.dm_type.specs.Tables.{Table, members_of}
use Rattle.dm_scope.specs.Scopes.{Scopes}
use Rattle.dm_name_map.specs.Numbers.{Numbers}
use Rattle.dm_typing.specs.Typing.{is_among}

-- the numbers of declarations in a scope are below the count
abbrev pub IsBelow : ℕ → Numbers → Type 0
IsBelow count scope = (name : List ℕ) (number : ℕ) → map.get scope name ≡ Some number → number < count

abbrev pub AreBelow : ℕ → Scopes → Type 0
AreBelow count scopes = All (IsBelow count) scopes

-- there is this struct, and it hasn't its members
abbrev pub IsUnset : Table → ℕ → Type 0
IsUnset types number = (number < length types.structs) × (members_of types number ≡ None)

-- none stands there twice
abbrev pub are_apart : List ℕ → Bool
are_apart [] = true
are_apart (number ∷ others) = not (is_among number others) && are_apart others

abbrev pub AreOpen : Table → List ℕ → Type 0
AreOpen types begun = All (IsUnset types) begun × IsTrue (are_apart begun)
