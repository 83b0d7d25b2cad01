-- The parts of objects by their types: what a path leads to, where its first byte is, and where pointers may move (6.2.5p20, 6.5.6).
--     Layout      the members of structs, and sizes
--     part_at layout type path      what a path leads to
--     byte_of layout type path      its first byte, from the object's
--     moved layout type target path count      the path that many elements further on
--     agree_without_const a b      the types are compatible, const apart
--     all_unset, all_zero      the first values of objects (6.7.9p10)
use Rattle.std.specs.Prelude.{ℕ, zero, suc, ◌+◌, ◌*◌, nat_lt, nat_le, Bool, true, false, ◌||◌, List, [], ◌∷◌, map, replicate, Option, Some, None, option_map, slice_get, ℤ, pos, negsuc, ◌+ℤ◌, ◌-ℤ◌, ◌==◌, if◌then◌else◌}
use Rattle.dm_int.specs.Operators.{int_eq}
use Rattle.dm_type.specs.CTypes.{CType, void, integer, pointer, array, struct, function, const, bare, is_const}
use Rattle.dm_type.specs.Alike.{are_compatible}
use Rattle.dm_meaning.specs.Values.{part, past, Path, null, Value, integer_value, pointer_value, parts, unset, values}

-- a member of a struct: its type, and its first byte
pub record Field : Type 0 where
  pub kind : CType
  pub offset : ℕ

-- how types are laid out
pub record Layout : Type 0 where
  -- how many structs there are, and the members of each by its number
  pub structs : ℕ
  pub fields : ℕ → List Field
  -- the size of a type's objects, in bytes
  pub size : CType → ℕ

-- What a path leads to.
pub data Reached : Type 0 where
  -- an object of this type, which is const or part of one that is (6.7.3p9)
  object_of : CType → Bool → Reached
  -- no element of the array
  outside : Reached
  -- nothing that an object of this type has
  foreign : Reached
  -- nothing that is known: the object isn't there
  unknown : Reached

-- a member, if the struct has it
abbrev pub reached_member : Option Field → Reached
reached_member (Some field) = object_of field.kind false
reached_member None = foreign

-- a part of an object that isn't const itself
abbrev pub element : Layout → CType → ℕ → Reached
element layout (array type (Some count)) n = if nat_lt n count then object_of type false else outside
element layout (struct number) n = reached_member (slice_get (layout.fields number) n)
element layout type n = foreign

-- go on from a part, if it is there
abbrev pub from_part : Reached → (CType → Reached) → Reached
from_part (object_of type fixed) next = next type
from_part outside next = outside
from_part foreign next = foreign
from_part unknown next = unknown

-- what a path leads to in an object of a type; `fixed` says that the object is part of a const one
abbrev pub part_at : Layout → Bool → CType → Path → Reached
part_at layout fixed type [] = object_of (bare type) (fixed || is_const type)
part_at layout fixed type (past ∷ path) = outside
part_at layout fixed type (part n ∷ path) = from_part (element layout (bare type) n) (λ inner. part_at layout (fixed || is_const type) inner path)

-- ---- types, const apart

-- The type without const. That of an array is the const of its elements (6.7.3p9).
abbrev pub unqualified : CType → CType
unqualified void = void
unqualified (integer kind) = integer kind
unqualified (pointer type) = pointer type
unqualified (array type length) = array (unqualified type) length
unqualified (struct number) = struct number
unqualified (function result parameters) = function result parameters
unqualified (const type) = unqualified type

-- the types are compatible, const apart
abbrev pub agree_without_const : CType → CType → Bool
agree_without_const a b = are_compatible (unqualified a) (unqualified b)

-- ---- bytes

-- the first byte of a part, and the part's type
abbrev pub offset_of : Layout → CType → ℕ → ℕ
offset_of layout (array type count) n = n * layout.size type
offset_of layout (struct number) n = offset_in (slice_get (layout.fields number) n)
  where
    offset_in : Option Field → ℕ
    offset_in (Some field) = field.offset
    offset_in None = 0
offset_of layout type n = 0

-- the type of a part, where it doesn't matter whether an element is there
abbrev pub inner_type : Layout → CType → ℕ → CType
inner_type layout (array type count) n = type
inner_type layout (struct number) n = kind_in (slice_get (layout.fields number) n)
  where
    kind_in : Option Field → CType
    kind_in (Some field) = field.kind
    kind_in None = void
inner_type layout type n = void

-- the first byte to which a path leads, from the object's first
abbrev pub byte_of : Layout → CType → Path → ℕ
byte_of layout type [] = 0
byte_of layout type (past ∷ path) = layout.size type
byte_of layout type (part n ∷ path) = offset_of layout (bare type) n + byte_of layout (inner_type layout (bare type) n) path

-- ---- moving (6.5.6p8)

-- a number that isn't negative and at most the count
abbrev pub up_to : ℕ → ℤ → Option ℕ
up_to count (pos n) = if nat_le n count then Some n else None
up_to count (negsuc n) = None

-- an object as an array of one
abbrev pub alone : ℕ → Path
alone zero = []
alone (suc n) = past ∷ []

-- move within an array of one whose element has this type
abbrev pub moved_alone : CType → CType → ℕ → ℤ → Option Path
moved_alone type target index count = if agree_without_const type target then option_map alone (up_to 1 (pos index +ℤ count)) else None

-- move within the array that this type is, from an element
abbrev pub moved_along : CType → CType → ℕ → ℤ → Option Path
moved_along (array type (Some length)) target n count =
    if agree_without_const type target then option_map (λ index. part index ∷ []) (up_to length (pos n +ℤ count)) else None
moved_along type target n count = None

abbrev pub is_array : CType → Bool
is_array (array type length) = true
is_array type = false

-- move the last part of a path, where that is an element of an array, and else what is within
abbrev pub last_part : CType → CType → ℕ → Path → ℤ → Option Path → Option Path
last_part whole target n [] count within = if is_array whole then moved_along whole target n count else within
last_part whole target n (first ∷ rest) count within = within

-- The path that is this many elements of the target type further on, unless that leaves the array and one past its end, or there is no array
-- of such elements.
abbrev pub moved_in : Layout → CType → CType → Path → ℤ → Option Path
moved_in layout type target [] count = moved_alone type target 0 count
moved_in layout type target (past ∷ []) count = moved_alone type target 1 count
moved_in layout type target (past ∷ first ∷ rest) count = None
moved_in layout type target (part n ∷ path) count =
    last_part (bare type) target n path count (option_map (λ inner. part n ∷ inner) (moved_in layout (inner_type layout (bare type) n) target path count))

-- to move by 0 is to stay
abbrev pub moved : Layout → CType → CType → Path → ℤ → Option Path
moved layout type target path count = if int_eq count (pos 0) then Some path else moved_in layout type target path count

-- ---- distances (6.5.6p9)

-- how far two elements of an array lie apart
abbrev pub apart : ℕ → ℕ → ℤ
apart m n = pos m -ℤ pos n

abbrev pub apart_within : Bool → Option ℤ → Option ℤ
apart_within true inner = inner
apart_within false inner = None

abbrev pub distance_between : CType → CType → ℕ → ℕ → Path → Path → Option ℤ → Option ℤ
distance_between (array type length) target m n [] [] inner = if agree_without_const type target then Some (apart m n) else None
distance_between whole target m n p q inner = apart_within (m == n) inner

-- an object as an array of one of the target type
abbrev pub distance_alone : CType → CType → ℕ → ℕ → Option ℤ
distance_alone type target m n = if agree_without_const type target then Some (apart m n) else None

-- How many elements of the target type lie between two paths into an object, if both lead to elements of one array, or one past its end.
abbrev pub distance : Layout → CType → CType → Path → Path → Option ℤ
distance layout type target [] [] = distance_alone type target 0 0
distance layout type target [] (past ∷ []) = distance_alone type target 0 1
distance layout type target (past ∷ []) [] = distance_alone type target 1 0
distance layout type target (past ∷ []) (past ∷ []) = distance_alone type target 1 1
distance layout type target (part m ∷ p) (part n ∷ q) =
    distance_between (bare type) target m n p q (distance layout (inner_type layout (bare type) m) target p q)
distance layout type target p q = None

-- ---- first values (6.7.9p10)

-- an object's value whose scalars have values by their types, given those of structs
abbrev pub filled : (CType → Value) → (ℕ → Value) → CType → Value
filled scalar structs void = scalar void
filled scalar structs (integer kind) = scalar (integer kind)
filled scalar structs (pointer type) = scalar (pointer type)
filled scalar structs (array type (Some count)) = parts (values (replicate count (filled scalar structs type)))
filled scalar structs (array type None) = unset
filled scalar structs (struct number) = structs number
filled scalar structs (function result parameters) = unset
filled scalar structs (const type) = filled scalar structs type

-- that of a struct, in which so many structs may lie within each other
abbrev pub filled_struct : Layout → (CType → Value) → ℕ → ℕ → Value
filled_struct layout scalar zero number = unset
filled_struct layout scalar (suc depth) number = parts (values (map (λ field. filled scalar (filled_struct layout scalar depth) field.kind) (layout.fields number)))

-- a struct has no more structs within it than there are
abbrev pub filled_with : Layout → (CType → Value) → CType → Value
filled_with layout scalar type = filled scalar (filled_struct layout scalar layout.structs) type

-- no scalar is set
abbrev pub all_unset : Layout → CType → Value
all_unset layout type = filled_with layout (λ scalar. unset) type

-- 0, or a null pointer
abbrev pub zero_of : CType → Value
zero_of (integer kind) = integer_value kind (pos 0)
zero_of (pointer type) = pointer_value null
zero_of type = unset

-- each scalar is 0 or a null pointer
abbrev pub all_zero : Layout → CType → Value
all_zero layout type = filled_with layout zero_of type
