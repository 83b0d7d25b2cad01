-- When a step is undefined, and for which cause: the first in the order of the table where several meet.
--     earliest causes      the first in the table's order
--     read_causes, store_causes      those of an access (6.3.2.1p2, 6.5p2, 6.5p7, 6.2.4p2, 6.7.3p6)
--     pointer_causes, moved_causes, ..      those of pointers
use Rattle.std.specs.Prelude.{ℕ, nat_le, Bool, true, false, not, ◌&&◌, ◌||◌, List, [], ◌∷◌, ◌++◌, Option, Some, None, is_none, ℤ, pos, if◌then◌else◌}
use Rattle.dm_int.specs.declared.Fault.{Fault}
use Rattle.dm_int.specs.declared.Fault.TheVariants.{Overflow as TooGreat, Zero, Shift as BadShift}
use Rattle.dm_int.specs.Operators.{int_eq}
use Rattle.dm_type.specs.CTypes.{CType}
use Rattle.dm_meaning.specs.declared.cause.Cause.{Cause}
use Rattle.dm_meaning.specs.declared.cause.Cause.TheVariants.{Overflow, Division, Shift, Conflict, Null, Bounds, Pointer as Order, Life, Unset, OtherType, Const, NoValue, External}
use Rattle.dm_meaning.specs.Values.{Name, elsewhere, Path, At, Pointer, null, to, Value, integer_value, pointer_value, parts, unset, same_name, overlaps_any}
use Rattle.dm_meaning.specs.Objects.{Layout, Reached, object_of, outside, foreign, unknown, agree_without_const, moved, distance}
use Rattle.dm_meaning.specs.Memory.{Memory, Block, look, reached, contents_at, lives, may_be_written}

-- the order of the table of causes
abbrev pub row : Cause → ℕ
row Overflow = 0
row Division = 1
row Shift = 2
row Conflict = 3
row Null = 4
row Bounds = 5
row Order = 6
row Life = 7
row Unset = 8
row OtherType = 9
row Const = 10
row NoValue = 11
row External = 12

abbrev pub earlier : Cause → Option Cause → Cause
earlier cause None = cause
earlier cause (Some other) = if nat_le (row cause) (row other) then cause else other

-- the first of the causes in the table's order, if there are any
abbrev pub earliest : List Cause → Option Cause
earliest [] = None
earliest (cause ∷ causes) = Some (earlier cause (earliest causes))

-- a cause where something holds
abbrev pub when : Cause → Bool → List Cause
when cause true = cause ∷ []
when cause false = []

-- a fault of arithmetic (6.5p5, 6.5.5p5, 6.5.7p3)
abbrev pub fault_cause : Fault → Cause
fault_cause TooGreat = Overflow
fault_cause Zero = Division
fault_cause BadShift = Shift

-- ---- accesses

abbrev pub is_outside : Reached → Bool
is_outside (object_of type fixed) = false
is_outside outside = true
is_outside foreign = false
is_outside unknown = false

-- an object of another type than that of the access; const apart, types are compared by compatibility
abbrev pub is_other : CType → Reached → Bool
is_other access (object_of type fixed) = not (agree_without_const type access)
is_other access outside = false
is_other access foreign = true
is_other access unknown = false

abbrev pub is_fixed : Reached → Bool
is_fixed (object_of type fixed) = fixed
is_fixed outside = false
is_fixed foreign = false
is_fixed unknown = false

abbrev pub is_unset : Value → Bool
is_unset unset = true
is_unset (integer_value kind number) = false
is_unset (pointer_value p) = false
is_unset (parts all) = false

-- an object that can't be used: its lifetime has ended (6.2.4p2), or the program doesn't define it (6.9p5)
abbrev pub absence_causes : Memory → Name → List Cause
absence_causes memory (elsewhere identifier) = External ∷ []
absence_causes memory name = when Life (not (lives (look memory name)))

-- an access of this type to a place, beside stores that are unsequenced with it
abbrev pub access_causes : Layout → Memory → List At → CType → At → List Cause
access_causes layout memory locks access at =
    when Conflict (overlaps_any at locks)
    ++ when Bounds (is_outside (reached layout memory at))
    ++ absence_causes memory at.name
    ++ when OtherType (is_other access (reached layout memory at))

-- An object is gone into by way of an lvalue of this type, whose member is named or which decays: the object has to be there (6.2.4p2), and
-- of that type (6.3.2.1p3, 6.5.2.3p3, 6.5p7).
abbrev pub entry_causes : Layout → Memory → CType → At → List Cause
entry_causes layout memory access at = absence_causes memory at.name ++ when OtherType (is_other access (reached layout memory at))

-- a scalar that was never set
abbrev pub is_unset_object : Value → Reached → Bool
is_unset_object value (object_of type fixed) = is_unset value
is_unset_object value outside = false
is_unset_object value foreign = false
is_unset_object value unknown = false

-- its value is read
abbrev pub read_causes : Layout → Memory → List At → CType → At → List Cause
read_causes layout memory locks access at =
    access_causes layout memory locks access at
    ++ when Unset (is_unset_object (contents_at memory at) (reached layout memory at))

-- a value is stored
abbrev pub store_causes : Layout → Memory → List At → CType → At → List Cause
store_causes layout memory locks access at =
    access_causes layout memory locks access at
    ++ when Const (is_fixed (reached layout memory at) || not (may_be_written (look memory at.name)))

-- it is read and another one is stored
abbrev pub update_causes : Layout → Memory → List At → CType → At → List Cause
update_causes layout memory locks access at = read_causes layout memory locks access at ++ store_causes layout memory locks access at

-- ---- pointers

abbrev pub is_null : Pointer → Bool
is_null null = true
is_null (to at) = false

-- a pointer is used, as by a comparison, a truth test or a conversion
abbrev pub use_causes : Memory → Pointer → List Cause
use_causes memory null = []
use_causes memory (to at) = absence_causes memory at.name

-- a pointer is followed (6.5.3.2p4)
abbrev pub follow_causes : Memory → Pointer → List Cause
follow_causes memory p = when Null (is_null p) ++ use_causes memory p

-- the path that a number of elements further on begins, if the array goes so far; in an object that isn't there it stays
abbrev pub path_moved : Layout → Option Block → CType → Path → ℤ → Option Path
path_moved layout None target path count = Some path
path_moved layout (Some block) target path count = moved layout block.kind target path count

abbrev pub pointer_along : Name → Option Path → Option Pointer
pointer_along name None = None
pointer_along name (Some path) = Some (to (record { name = name; path = path }))

-- the pointer to that element (6.5.6p8)
abbrev pub moved_pointer : Layout → Memory → CType → Pointer → ℤ → Option Pointer
moved_pointer layout memory target null count = Some null
moved_pointer layout memory target (to at) count = pointer_along at.name (path_moved layout (look memory at.name) target at.path count)

abbrev pub moved_causes : Layout → Memory → CType → Pointer → ℤ → List Cause
moved_causes layout memory target p count =
    when Null (is_null p && not (int_eq count (pos 0)))
    ++ when Bounds (is_none (moved_pointer layout memory target p count))
    ++ use_causes memory p

abbrev pub distance_in : Layout → CType → Path → Path → Option Block → Option ℤ
distance_in layout target p q None = Some (pos 0)
distance_in layout target p q (Some block) = distance layout block.kind target p q

-- how far two pointers into one array lie apart (6.5.6p9)
abbrev pub pointer_distance : Layout → Memory → CType → Pointer → Pointer → Option ℤ
pointer_distance layout memory target null b = None
pointer_distance layout memory target (to a) null = None
pointer_distance layout memory target (to a) (to b) = if same_name a.name b.name then distance_in layout target a.path b.path (look memory a.name) else None

abbrev pub distance_causes : Layout → Memory → CType → Pointer → Pointer → List Cause
distance_causes layout memory target a b =
    when Null (is_null a || is_null b)
    ++ when Order (is_none (pointer_distance layout memory target a b))
    ++ use_causes memory a ++ use_causes memory b

-- they point into one object
abbrev pub in_one_object : Pointer → Pointer → Bool
in_one_object null b = false
in_one_object (to a) null = false
in_one_object (to a) (to b) = same_name a.name b.name

-- pointers are ordered (6.5.8p5)
abbrev pub order_causes : Memory → Pointer → Pointer → List Cause
order_causes memory a b = when Order (not (in_one_object a b)) ++ use_causes memory a ++ use_causes memory b
