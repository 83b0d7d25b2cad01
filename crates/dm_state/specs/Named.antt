-- Tables of the objects that declarations name, by the numbers of the declarations.
use Rattle.std.specs.Prelude.{◌≡◌, ℕ, List, Option, Some, None, slice_get}
use Rattle.dm_meaning.specs.Operations.{Objects, object_named}

abbrev pub in_place : Option (Option ℕ) → Option ℕ
in_place None = None
in_place (Some one) = one

-- the object that a declaration names, if it names one
abbrev pub at_number : List (Option ℕ) → ℕ → Option ℕ
at_number table d = in_place (slice_get table d)

-- each declaration names what these say
abbrev pub IsTable : List (Option ℕ) → Objects → Type 0
IsTable table objects = (d : ℕ) → at_number table d ≡ object_named objects d
