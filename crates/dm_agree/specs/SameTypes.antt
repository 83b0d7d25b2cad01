-- Whether two types, written out, are the same: the test that decides it.
--     same_type a b      they are
--     Means old new compared truth      what is known of whether a type of the new unit is one of the old
use Rattle.std.specs.Prelude.{◌≡◌, ℕ, ◌<◌, Bool, true, false, ◌&&◌, ◌==◌, List, [], ◌∷◌, Option, Some, None}
use Rattle.dm_int.specs.Kinds.{number_of}
use Rattle.dm_type.specs.CTypes.{CType, CTypes, void, integer, pointer, array, struct, function, const, no_types, more_types}
use Rattle.dm_type.specs.Tables.{Table, IsId, type_of}
use Rattle.dm_agree.specs.declared.types.Compared.{Compared}
use Rattle.dm_agree.specs.declared.types.Compared.TheVariants.{Known, Like}

abbrev pub same_length : Option ℕ → Option ℕ → Bool
same_length None None = true
same_length (Some m) (Some n) = m == n
same_length m n = false

abbrev mutual
  pub same_type : CType → CType → Bool
  same_type void void = true
  same_type (integer kind) (integer other) = number_of kind == number_of other
  same_type (pointer a) (pointer b) = same_type a b
  same_type (array a m) (array b n) = same_length m n && same_type a b
  same_type (struct m) (struct n) = m == n
  same_type (function a parameters) (function b others) = same_type a b && same_types parameters others
  same_type (const a) (const b) = same_type a b
  same_type a b = false

  pub same_types : CTypes → CTypes → Bool
  same_types no_types no_types = true
  same_types (more_types a types) (more_types b others) = same_type a b && same_types types others
  same_types types others = false

abbrev pub same_listed : List CType → List CType → Bool
same_listed [] [] = true
same_listed (a ∷ types) (b ∷ others) = same_type a b && same_listed types others
same_listed types others = false

abbrev pub Means : Table → Table → Compared → Bool → Type 0
Means new old (Known answer) truth = truth ≡ answer
Means new old (Like a b) truth = IsId new a × IsId old b × (truth ≡ same_type (type_of new a) (type_of old b))

-- what is left to compare is below a limit
abbrev pub IsUnder : ℕ → Compared → Type 0
IsUnder limit (Known answer) = Unit {0}
IsUnder limit (Like a b) = a < limit
