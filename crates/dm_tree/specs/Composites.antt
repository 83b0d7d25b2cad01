-- What a type says of another: the type of an entry says all that its declarations say (6.2.7p3, p4).
--     covers whole part      the type says all that the other says
use Rattle.std.specs.Prelude.{ℕ, Bool, true, false, ◌&&◌, ◌==◌, Option, Some, None}
use Rattle.dm_int.specs.Kinds.{number_of}
use Rattle.dm_type.specs.CTypes.{CType, CTypes, void, integer, pointer, array, struct, function as function_type, const, no_types, more_types, bare}

-- an array has the length that the other type gives it, if that gives one
abbrev pub covers_length : Option ℕ → Option ℕ → Bool
covers_length m None = true
covers_length (Some m) (Some n) = m == n
covers_length None (Some n) = false

-- The types are the same but for lengths of arrays that the other type doesn't give, and the const of parameters: a composite type says
-- so of the types that it was made of. A name may have any of these types where it is used, since a later declaration may complete it.
abbrev mutual
  pub covers : CType → CType → Bool
  covers void void = true
  covers (integer kind) (integer other) = number_of kind == number_of other
  covers (pointer a) (pointer b) = covers a b
  covers (array a m) (array b n) = covers_length m n && covers a b
  covers (struct m) (struct n) = m == n
  covers (function_type a parameters) (function_type b others) = covers a b && cover_parameters parameters others
  covers (const a) (const b) = covers a b
  covers a b = false

  -- as many, each without its const (6.7.6.3p15)
  pub cover_parameters : CTypes → CTypes → Bool
  cover_parameters no_types no_types = true
  cover_parameters (more_types (const a) types) (more_types b others) = covers a (bare b) && cover_parameters types others
  cover_parameters (more_types a types) (more_types b others) = covers a (bare b) && cover_parameters types others
  cover_parameters types others = false
