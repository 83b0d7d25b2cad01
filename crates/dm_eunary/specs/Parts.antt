-- The search for a const part of an object: which structs have been seen, and which of them are left to be looked at.
--     struct_inside type      the struct of the elements of an array of arrays, or of an object
--     noted stage number      a struct is seen, and is to be looked at unless it was seen before
use Rattle.std.specs.Prelude.{ℕ, ◌<◌, length, IfSome, Bool, true, false, if◌then◌else◌, List, [], ◌∷◌, ◌++◌, Option, Some, None, slice_index_or, slice_set, replicate}
use Rattle.dm_type.specs.declared.shape.Member.{Member}
use Rattle.dm_type.specs.CTypes.{CType, is_const}
use Rattle.dm_type.specs.Tables.{Table, type_of}
use Rattle.dm_eunary.specs.declared.parts.Search.{Search}
use Rattle.dm_typing.specs.Conversions.{element}
use Rattle.dm_typing.specs.Typing.{number_if_struct}

-- the elements of an array of arrays are const, or any other type is
abbrev pub has_const_elements : CType → Bool
has_const_elements type = is_const (element type)

-- the struct of the elements of an array of arrays, or of an object
abbrev pub struct_inside : CType → Option ℕ
struct_inside type = number_if_struct (element type)

-- how far a search is
pub record Stage : Type 0 where
  -- whether each struct has been seen
  pub seen : List Bool
  -- those that have been seen, and not been looked at
  pub left : List ℕ

-- as the code has it
abbrev pub stage_of : Search → Stage
stage_of search = record { seen = search.seen.items; left = search.left.items }

abbrev pub is_seen : List Bool → ℕ → Bool
is_seen seen number = slice_index_or seen number false

-- a struct is seen, and is to be looked at unless it was seen before
abbrev pub noted : Stage → ℕ → Stage
noted stage number =
    if is_seen stage.seen number then stage else record { seen = slice_set stage.seen number true; left = stage.left ++ number ∷ [] }

-- the struct inside a type is, if there is one
abbrev pub noted_inside : Stage → Option ℕ → Stage
noted_inside stage None = stage
noted_inside stage (Some number) = noted stage number

-- where the search for const parts of a type begins
abbrev pub first_stage : Table → CType → Stage
first_stage table type = noted_inside (record { seen = replicate (length table.structs) false; left = [] }) (struct_inside type)

-- the structs inside the members of one
abbrev pub all_noted : Table → Stage → List Member → Stage
all_noted table stage [] = stage
all_noted table stage (member ∷ members) = all_noted table (noted_inside stage (struct_inside (type_of table member.kind))) members

-- the struct inside the type of a number, if there is one, is one of the table
abbrev pub HasKnownStruct : Table → ℕ → Type 0
HasKnownStruct table id = IfSome (struct_inside (type_of table id)) (λ number. number < length table.structs)
