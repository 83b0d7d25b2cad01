-- Compatible types and composite types (6.2.7) within one translation unit.
--     are_compatible a b      the types are compatible
--     composite a b      the composite type of two compatible types
use Rattle.std.specs.Prelude.{ℕ, Bool, true, false, ◌&&◌, ◌==◌, Option, Some, None}
use Rattle.dm_int.specs.Kinds.{number_of}
use Rattle.dm_type.specs.CTypes.{CType, CTypes, void, integer, pointer, array, struct, function, const, no_types, more_types, bare, with_const}

-- Two lengths of arrays differ only where both are known (6.7.6.2p6).
abbrev pub lengths_agree : Option ℕ → Option ℕ → Bool
lengths_agree None n = true
lengths_agree (Some m) None = true
lengths_agree (Some m) (Some n) = m == n

-- the length that is known, if any (6.2.7p3)
abbrev pub known_length : Option ℕ → Option ℕ → Option ℕ
known_length None n = n
known_length (Some m) n = Some m

-- Types are compatible where they are the same but for unknown lengths of arrays and the const of parameters (6.2.7,
-- 6.7.3p10, 6.7.6.1p2, 6.7.6.2p6, 6.7.6.3p15). Each struct of a unit is a type of its own.
abbrev mutual
  pub are_compatible : CType → CType → Bool
  are_compatible void void = true
  are_compatible (integer kind) (integer other) = number_of kind == number_of other
  are_compatible (pointer a) (pointer b) = are_compatible a b
  are_compatible (array a m) (array b n) = lengths_agree m n && are_compatible a b
  are_compatible (struct m) (struct n) = m == n
  are_compatible (function a parameters) (function b others) = are_compatible a b && match_as_parameters parameters others
  are_compatible (const a) (const b) = are_compatible a b
  are_compatible a b = false

  -- as many, and compatible without the const of each (6.7.6.3p15)
  pub match_as_parameters : CTypes → CTypes → Bool
  match_as_parameters no_types no_types = true
  match_as_parameters (more_types (const a) types) (more_types b others) = are_compatible a (bare b) && match_as_parameters types others
  match_as_parameters (more_types a types) (more_types b others) = are_compatible a (bare b) && match_as_parameters types others
  match_as_parameters types others = false

-- The composite type of two compatible types (6.2.7p3): an array's length is the known one, and a parameter is without
-- its const.
abbrev mutual
  pub composite : CType → CType → CType
  composite (pointer a) (pointer b) = pointer (composite a b)
  composite (array a m) (array b n) = array (composite a b) (known_length m n)
  composite (function a parameters) (function b others) = function (composite a b) (composite_parameters parameters others)
  composite (const a) (const b) = with_const (composite a b)
  composite a b = a

  pub composite_parameters : CTypes → CTypes → CTypes
  composite_parameters (more_types (const a) types) (more_types b others) = more_types (composite a (bare b)) (composite_parameters types others)
  composite_parameters (more_types a types) (more_types b others) = more_types (composite a (bare b)) (composite_parameters types others)
  composite_parameters types others = no_types
