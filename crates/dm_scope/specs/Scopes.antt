-- The scopes that are open at a place of a translation unit (6.2.1), from the inside outwards.
--     Scopes      for each scope the names that are declared in it, with their numbers
--     number_of scopes name      the number of the innermost declaration of a name
--     is_declared scopes name      the innermost scope declares the name
--     declared scopes name number      the scopes after a declaration in the innermost one
use Rattle.std.specs.Prelude.{ℕ, Bool, false, List, [], ◌∷◌, Option, Some, None}
use Rattle.std.specs.FinMap as map
use Rattle.dm_name_map.specs.Numbers.{Numbers}

abbrev pub Scopes : Type 0
Scopes = List Numbers

-- a number, or else another answer
abbrev pub or_else : Option ℕ → Option ℕ → Option ℕ
or_else None other = other
or_else (Some number) other = Some number

-- An inner declaration hides those outside (6.2.1p4).
abbrev pub number_of : Scopes → List ℕ → Option ℕ
number_of [] name = None
number_of (scope ∷ scopes) name = or_else (map.get scope name) (number_of scopes name)

abbrev pub is_declared : Scopes → List ℕ → Bool
is_declared [] name = false
is_declared (scope ∷ scopes) name = map.contains_key scope name

abbrev pub declared : Scopes → List ℕ → ℕ → Scopes
declared [] name number = []
declared (scope ∷ scopes) name number = map.insert scope name number ∷ scopes
