-- Values, pointers, and the parts of objects that paths name (6.2.6, 6.5.6p7, 6.7.9).
--     Value      an integer of a kind, a pointer, the parts of a struct or an array, or unset
--     Name, Path      which object, and which part of it
--     part_value value path, with_part path new value      the value of a part, and the whole with another one there
--     overlaps a b      two places share a byte
use Rattle.std.specs.Prelude.{ℕ, zero, suc, ◌==◌, Bool, true, false, ◌&&◌, ◌||◌, List, [], ◌∷◌, Option, Some, None, option_and_then, slice_get, bytes_eq, ℤ}
use Rattle.dm_int.specs.declared.Kind.{Kind}

-- An object by its name: one that a declaration or a call makes has a number, a string literal has its bytes and the number of its unit,
-- so equal literals of a unit are one object (6.4.5p7). An object that the program declares and doesn't define is known by its
-- identifier, only so that the first value of another can be its address.
pub data Name : Type 0 where
  numbered : ℕ → Name
  literal_of : List ℕ → ℕ → Name
  elsewhere : List ℕ → Name

-- A step from an object into it, or beyond it.
pub data Part : Type 0 where
  -- the element, or the member, of this number; one past an array's end is the element of its length's number
  part : ℕ → Part
  -- one past an object that is no element of an array: for pointers it is an array of one (6.5.6p7)
  past : Part

-- which part of an object, from the whole inwards
abbrev pub Path : Type 0
Path = List Part

-- a place: an object, and a part of it
pub record At : Type 0 where
  pub name : Name
  pub path : Path

pub data Pointer : Type 0 where
  null : Pointer
  to : At → Pointer

mutual
  pub data Value : Type 0 where
    -- an integer of a kind
    integer_value : Kind → ℤ → Value
    pointer_value : Pointer → Value
    -- the members of a struct, or the elements of an array
    parts : Values → Value
    -- a scalar that was never set; also what a void expression gives, which nothing uses (6.3.2.2)
    unset : Value

  pub data Values : Type 0 where
    no_values : Values
    more_values : Value → Values → Values

-- values as a list, and back
abbrev pub value_list : Values → List Value
value_list no_values = []
value_list (more_values first rest) = first ∷ value_list rest

abbrev pub values : List Value → Values
values [] = no_values
values (first ∷ rest) = more_values first (values rest)

-- the parts of a value, none where it has none
abbrev pub parts_in : Value → List Value
parts_in (integer_value kind number) = []
parts_in (pointer_value pointer) = []
parts_in (parts all) = value_list all
parts_in unset = []

-- the value of a part, if the path leads to one
abbrev pub part_value : Value → Path → Option Value
part_value value [] = Some value
part_value value (past ∷ path) = None
part_value value (part n ∷ path) = option_and_then (λ inner. part_value inner path) (slice_get (parts_in value) n)

-- a list with what a change makes of its n-th value
abbrev pub changed_value : ℕ → (Value → Value) → List Value → List Value
changed_value n change [] = []
changed_value zero change (first ∷ rest) = change first ∷ rest
changed_value (suc n) change (first ∷ rest) = first ∷ changed_value n change rest

-- the value with another one in place of a part
abbrev pub with_part : Path → Value → Value → Value
with_part [] new value = new
with_part (past ∷ path) new value = value
with_part (part n ∷ path) new value = parts (values (changed_value n (with_part path new) (parts_in value)))

-- ---- places

abbrev pub same_name : Name → Name → Bool
same_name (numbered a) (numbered b) = a == b
same_name (literal_of a m) (literal_of b n) = bytes_eq a b && m == n
same_name (elsewhere a) (elsewhere b) = bytes_eq a b
same_name a b = false

abbrev pub same_part : Part → Part → Bool
same_part (part a) (part b) = a == b
same_part past past = true
same_part (part a) past = false
same_part past (part b) = false

-- one path begins with the other
abbrev pub along : Path → Path → Bool
along [] b = true
along (first ∷ rest) [] = true
along (first ∷ rest) (other ∷ others) = same_part first other && along rest others

-- Two places of one object overlap where one of them is within the other: there are no unions.
abbrev pub overlaps : At → At → Bool
overlaps a b = same_name a.name b.name && along a.path b.path

-- a place overlaps one of these
abbrev pub overlaps_any : At → List At → Bool
overlaps_any place [] = false
overlaps_any place (lock ∷ locks) = overlaps place lock || overlaps_any place locks
