-- The types of C (6.2.5), each written out in full down to its structs, which are told apart by their numbers.
--     CType      a type, and `CTypes` the types of a function's parameters
--     bare type      the type without its own const, and `with_const type` with it (6.2.5p26, 6.7.3)
use Rattle.std.specs.Prelude.{ℕ, Bool, true, false, List, [], ◌∷◌, Option}
use Rattle.dm_int.specs.declared.Kind.{Kind}

mutual
  pub data CType : Type 0 where
    void : CType
    integer : Kind → CType
    pointer : CType → CType
    -- elements of a type, and how many, if that is known
    array : CType → Option ℕ → CType
    -- a struct by its number
    struct : ℕ → CType
    -- the type of the result, and those of the parameters
    function : CType → CTypes → CType
    -- the const-qualified version of a type
    const : CType → CType

  pub data CTypes : Type 0 where
    no_types : CTypes
    more_types : CType → CTypes → CTypes

-- the types of a list
abbrev pub all_of : List CType → CTypes
all_of [] = no_types
all_of (type ∷ types) = more_types type (all_of types)

-- and back
abbrev pub list_of : CTypes → List CType
list_of no_types = []
list_of (more_types type types) = type ∷ list_of types

-- The const-qualified version of a type. The const of an array is that of its elements (6.7.3p9), and const twice is
-- const once (6.7.3p5).
abbrev pub with_const : CType → CType
with_const void = const void
with_const (integer kind) = const (integer kind)
with_const (pointer type) = const (pointer type)
with_const (array type length) = array (with_const type) length
with_const (struct number) = const (struct number)
with_const (function result parameters) = const (function result parameters)
with_const (const type) = const type

-- the unqualified version of a type
abbrev pub bare : CType → CType
bare (const type) = type
bare type = type

-- the type itself is const-qualified
abbrev pub is_const : CType → Bool
is_const (const type) = true
is_const type = false
