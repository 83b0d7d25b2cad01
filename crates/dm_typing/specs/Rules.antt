-- The constraints on expressions (6.5), a definition a rule, by the rule's number. Each says of operands that are typed whether they may
-- stand there, or gives the operands after their conversions and the type of the whole.
use Rattle.std.specs.Prelude.{ℕ, Bool, true, false, ◌&&◌, ◌||◌, ◌==◌, not, if◌then◌else◌, List, [], ◌∷◌, Option, Some, None, is_some, option_map, option_and_then, bytes_eq, ◌+◌}
use Rattle.dm_int.specs.declared.Kind.{Kind}
use Rattle.dm_int.specs.declared.Kind.TheVariants as k
use Rattle.dm_int.specs.declared.Op.{Op}
use Rattle.dm_int.specs.declared.Op.TheVariants as o
use Rattle.dm_int.specs.Kinds.{promote, common}
use Rattle.dm_type.specs.declared.shape.Member.{Member}
use Rattle.dm_type.specs.Alike.{composite}
use Rattle.dm_type.specs.CTypes.{CType, CTypes, void, integer, pointer, struct, function as function_type, no_types, more_types, bare, is_const, with_const}
use Rattle.dm_type.specs.Tables.{Table, type_of, members_of}
use Rattle.dm_tree.specs.declared.tree.Sign.{Sign}
use Rattle.dm_tree.specs.declared.tree.Sign.TheVariants as s
use Rattle.dm_tree.specs.declared.unit.Sort.{Sort}
use Rattle.dm_tree.specs.declared.unit.Sort.TheVariants.{Object, Function, Typedef, Enumerator, Tag}
use Rattle.dm_tree.specs.Constants.{integer_kind}
use Rattle.dm_tree.specs.Evaluation.{is_shift}
use Rattle.dm_tree.specs.Operands.{result_type}
use Rattle.dm_tree.specs.Trees.{Label, object, function, enumerator, Tree, kind_of}
use Rattle.dm_tree.specs.Scenes.{is_lvalue, target, is_integer, is_pointer, is_scalar, is_void, is_array, are_alike}
use Rattle.dm_typing.specs.Known.{Known}
use Rattle.dm_typing.specs.Conversions.{is_same, is_complete, complete_target, has_const, as_type, as_kind, promoted, is_null}

-- ---- C1: a name that is used is that of an object, a function or an enumerator

-- what the name of an entry stands for, and its type
abbrev pub named_by_sort : Sort → ℕ → CType → Option (Label × CType)
named_by_sort (Object fixed) at type = Some (object at, type)
named_by_sort Function at type = Some (function at, type)
named_by_sort (Enumerator value) at type = Some (enumerator at, integer k.Int)
named_by_sort Typedef at type = None
named_by_sort Tag at type = None

-- ---- values in pairs

-- two operands after their conversions, and the type of the whole
pub record Pair : Type 0 where
  pub left : Tree
  pub right : Tree
  pub kind : CType

abbrev pub pair : Tree → Tree → CType → Pair
pair left right kind = record { left = left; right = right; kind = kind }

-- ---- pointers

abbrev pub is_void_target : Option CType → Bool
is_void_target None = false
is_void_target (Some type) = is_void (bare type)

-- a pointer to void, const or not
abbrev pub is_void_pointer : CType → Bool
is_void_pointer type = is_void_target (target type)

abbrev pub are_alike_targets : Option CType → Option CType → Bool
are_alike_targets (Some a) (Some b) = are_alike a b
are_alike_targets a b = false

-- two pointers to types that are compatible, their const apart
abbrev pub point_alike : CType → CType → Bool
point_alike a b = are_alike_targets (target a) (target b)

abbrev pub points_to_complete : Known → CType → Bool
points_to_complete known type = is_some (complete_target known type)

-- ---- C11: of a[b] one is a pointer to a complete object type, and the other an integer

-- the type of the pointer
abbrev pub indexed : Known → CType → CType → Option CType
indexed known a b =
    if points_to_complete known a && is_integer b then Some a
    else if points_to_complete known b && is_integer a then Some b
    else None

-- ---- C12: a complete struct has the member, and an array member is not one of a value

-- a member by its name, with its number
abbrev pub found_in : Table → List ℕ → ℕ → List Member → Option (ℕ × CType)
found_in table name n [] = None
found_in table name n (member ∷ members) =
    if bytes_eq member.name name then Some (n, type_of table member.kind) else found_in table name (n + 1) members

abbrev pub member_of_struct : Known → List ℕ → CType → Option (ℕ × CType)
member_of_struct known name (struct at) = option_and_then (found_in known.types name 0) (members_of known.types at)
member_of_struct known name type = None

-- A member of an lvalue has the const of the whole; one of a value has none (6.5.2.3p3).
abbrev pub member_in : Bool → Bool → ℕ × CType → Option (ℕ × CType)
member_in true whole_is_const (n, type) = Some (n, if whole_is_const then with_const type else type)
member_in false whole_is_const (n, type) = if is_array type then None else Some (n, bare type)

abbrev pub member_by_name : Known → List ℕ → Tree → Option (ℕ × CType)
member_by_name known name tree =
    option_and_then (member_in (is_lvalue tree) (is_const (kind_of tree))) (member_of_struct known name (bare (kind_of tree)))

-- ---- C13: ++ and -- have a modifiable lvalue that is an integer or a pointer to a complete object type

-- an lvalue that may be written: complete, no array, and without a const part (6.3.2.1p1)
abbrev pub is_modifiable : Known → Tree → Bool
is_modifiable known tree =
    is_lvalue tree && not (is_array (kind_of tree)) && is_complete known (kind_of tree) && not (has_const known.types (kind_of tree))

abbrev pub may_be_counted : Known → Tree → Bool
may_be_counted known tree = is_modifiable known tree && (is_integer (kind_of tree) || points_to_complete known (kind_of tree))

-- ---- C16: + - ~ have an integer, and ! a scalar

-- the operand after its promotion, and the type of the whole
abbrev pub signed_integer : Tree → Kind → Tree × CType
signed_integer tree kind = (promoted kind tree, integer (promote kind))

abbrev pub signed : Sign → Tree → Option (Tree × CType)
signed s.Not tree = if is_scalar (kind_of tree) then Some (tree, integer k.Int) else None
signed sign tree = option_map (signed_integer tree) (integer_kind (kind_of tree))

-- ---- C18: a cast goes to void, between integers, between pointers to compatible types or to or from void *, from a pointer to _Bool, or
-- from a null pointer constant to a pointer

abbrev pub may_become_pointer : Known → Tree → CType → Option CType → Bool
may_become_pointer known tree to (Some from) = are_alike to from || is_void (bare to) || is_void (bare from) || is_null known tree
may_become_pointer known tree to None = is_null known tree

abbrev pub may_be_cast : Known → Tree → CType → Bool
may_be_cast known tree void = true
may_be_cast known tree (integer k.Bool) = is_scalar (kind_of tree)
may_be_cast known tree (integer kind) = is_integer (kind_of tree)
may_be_cast known tree (pointer to) = may_become_pointer known tree to (target (kind_of tree))
may_be_cast known tree type = false

-- ---- C19 to C25: operators between two operands

-- two integers after the usual arithmetic conversions (6.3.1.8)
abbrev pub of_kind : Op → Kind → Tree → Tree → Pair
of_kind op kind a b = pair (as_kind kind a) (as_kind kind b) (result_type op kind)

-- of integers: the operands of a shift are promoted one by one (6.5.7p3)
abbrev pub of_integers : Op → Kind → Kind → Tree → Tree → Pair
of_integers op left right a b =
    if is_shift op then pair (promoted left a) (promoted right b) (integer (promote left)) else of_kind op (common left right) a b

-- C20, C21: a pointer to a complete object type and an integer, or a difference of two to compatible types
abbrev pub of_pointer_and_integer : Known → Op → Tree → Tree → Option Pair
of_pointer_and_integer known o.Add a b =
    if points_to_complete known (kind_of a) && is_integer (kind_of b) then Some (pair a b (kind_of a))
    else if points_to_complete known (kind_of b) && is_integer (kind_of a) then Some (pair a b (kind_of b))
    else None
of_pointer_and_integer known o.Sub a b =
    if points_to_complete known (kind_of a) && is_integer (kind_of b) then Some (pair a b (kind_of a))
    else if points_to_complete known (kind_of a) && points_to_complete known (kind_of b) && point_alike (kind_of a) (kind_of b) then Some (pair a b (integer k.Long))
    else None
of_pointer_and_integer known op a b = None

-- C23: pointers to compatible types are ordered
abbrev pub ordered : Tree → Tree → Option Pair
ordered a b = if point_alike (kind_of a) (kind_of b) then Some (pair a b (integer k.Int)) else None

-- C24: pointers are equal or not also where one points to void, or is a null pointer constant; that is converted to the other's type, and
-- the other to `void *` (6.5.9p5)
abbrev pub equated : Known → Tree → Tree → Option Pair
equated known a b =
    if point_alike (kind_of a) (kind_of b) then Some (pair a b (integer k.Int))
    else if is_pointer (kind_of a) && is_null known b then Some (pair a (as_type (kind_of a) b) (integer k.Int))
    else if is_pointer (kind_of b) && is_null known a then Some (pair (as_type (kind_of b) a) b (integer k.Int))
    else if is_void_pointer (kind_of a) && is_pointer (kind_of b) then Some (pair a (as_type (kind_of a) b) (integer k.Int))
    else if is_pointer (kind_of a) && is_void_pointer (kind_of b) then Some (pair (as_type (kind_of b) a) b (integer k.Int))
    else None

-- of operands that are not both integers
abbrev pub of_others : Known → Op → Tree → Tree → Option Pair
of_others known o.Add a b = of_pointer_and_integer known o.Add a b
of_others known o.Sub a b = of_pointer_and_integer known o.Sub a b
of_others known o.Less a b = ordered a b
of_others known o.Greater a b = ordered a b
of_others known o.LessEq a b = ordered a b
of_others known o.GreaterEq a b = ordered a b
of_others known o.Equal a b = equated known a b
of_others known o.NotEqual a b = equated known a b
of_others known op a b = None

abbrev pub of_kinds : Known → Op → Tree → Tree → Option Kind → Option Kind → Option Pair
of_kinds known op a b (Some left) (Some right) = Some (of_integers op left right a b)
of_kinds known op a b left right = of_others known op a b

-- the operands of a binary operator
abbrev pub operated : Known → Op → Tree → Tree → Option Pair
operated known op a b = of_kinds known op a b (integer_kind (kind_of a)) (integer_kind (kind_of b))

-- the rule of an operator
abbrev pub rule_of : Op → ℕ
rule_of o.Mul = 19
rule_of o.Div = 19
rule_of o.Rem = 19
rule_of o.Add = 20
rule_of o.Sub = 21
rule_of o.Shl = 22
rule_of o.Shr = 22
rule_of o.Less = 23
rule_of o.Greater = 23
rule_of o.LessEq = 23
rule_of o.GreaterEq = 23
rule_of o.Equal = 24
rule_of o.NotEqual = 24
rule_of o.And = 25
rule_of o.Xor = 25
rule_of o.Or = 25

-- ---- C27: ?: has a scalar first; the arms are integers, of one struct type, both void, or pointers as in C24 (6.5.15p3)

abbrev pub with_const_if : Bool → CType → CType
with_const_if true type = with_const type
with_const_if false type = type

-- the type of two pointers (6.5.15p6): to the composite type, with the const of both targets; that of the other where one is a null
-- pointer constant; and to void where one points to void
abbrev pub pointer_arms : Known → Tree → Tree → CType → CType → Option CType
pointer_arms known a b to from =
    if are_alike to from then Some (pointer (with_const_if (is_const to || is_const from) (composite (bare to) (bare from))))
    else if is_null known b then Some (kind_of a)
    else if is_null known a then Some (kind_of b)
    else if is_void (bare to) || is_void (bare from) then Some (pointer (with_const_if (is_const to || is_const from) void))
    else None

abbrev pub arms_by_targets : Known → Tree → Tree → Option CType → Option CType → Option CType
arms_by_targets known a b (Some to) (Some from) = pointer_arms known a b to from
arms_by_targets known a b (Some to) None = if is_null known b then Some (kind_of a) else None
arms_by_targets known a b None (Some from) = if is_null known a then Some (kind_of b) else None
arms_by_targets known a b None None = None

-- both arms converted to a type
abbrev pub both_as : Tree → Tree → CType → Pair
both_as a b kind = pair (as_type kind a) (as_type kind b) kind

abbrev pub arms_of_types : Known → Tree → Tree → CType → CType → Option Pair
arms_of_types known a b void void = Some (both_as a b void)
arms_of_types known a b (struct m) (struct n) = if m == n then Some (pair a b (struct m)) else None
arms_of_types known a b left right = option_map (both_as a b) (arms_by_targets known a b (target left) (target right))

abbrev pub arms_of_kinds : Known → Tree → Tree → Option Kind → Option Kind → Option Pair
arms_of_kinds known a b (Some left) (Some right) = Some (both_as a b (integer (common left right)))
arms_of_kinds known a b left right = arms_of_types known a b (kind_of a) (kind_of b)

abbrev pub arms : Known → Tree → Tree → Option Pair
arms known a b = arms_of_kinds known a b (integer_kind (kind_of a)) (integer_kind (kind_of b))

-- ---- C28: the left of = is a modifiable lvalue, and the right is assignable

-- a pointer keeps the const of what it points to (6.5.16.1p1)
abbrev pub keeps_const : CType → CType → Bool
keeps_const to from = is_const to || not (is_const from)

abbrev pub pointer_assignable : Known → Tree → CType → Option CType → Bool
pointer_assignable known tree to (Some from) =
    (are_alike to from || is_void (bare to) || is_void (bare from)) && keeps_const to from || is_null known tree
pointer_assignable known tree to None = is_null known tree

-- a value may be assigned to an object of a type without const
abbrev pub assignable_to : Known → Tree → CType → Bool
assignable_to known tree (integer k.Bool) = is_scalar (kind_of tree)
assignable_to known tree (integer kind) = is_integer (kind_of tree)
assignable_to known tree (pointer to) = pointer_assignable known tree to (target (kind_of tree))
assignable_to known tree (struct at) = is_same (kind_of tree) (struct at)
assignable_to known tree type = false

abbrev pub is_assignable : Known → Tree → CType → Bool
is_assignable known tree type = assignable_to known tree (bare type)

-- ---- C10: arguments are as many as the parameters and assignable (6.5.2.2p2)

-- the arguments after their conversions
abbrev pub put_before : Tree → Option (List Tree) → Option (List Tree)
put_before tree trees = option_map (λ list. tree ∷ list) trees

abbrev pub passed : Known → List Tree → CTypes → Option (List Tree)
passed known [] no_types = Some []
passed known (value ∷ values) (more_types type types) =
    if is_assignable known value type then put_before (as_type type value) (passed known values types) else None
passed known values types = None

-- the result and the arguments of a call
abbrev pub called : Known → CType → List Tree → Option (CType × List Tree)
called known (function_type result parameters) values = option_map (λ list. (bare result, list)) (passed known values parameters)
called known type values = None

-- ---- C29: a compound assignment has a modifiable lvalue and integers, or += and -= a pointer to a complete object type and an integer

-- the type in which the operator works, and the right operand after its conversion
abbrev pub updated_integer : Op → Kind → Kind → Tree → CType × Tree
updated_integer op left right value =
    if is_shift op then (integer (promote left), promoted right value) else (integer (common left right), as_kind (common left right) value)

abbrev pub moves : Op → Bool
moves o.Add = true
moves o.Sub = true
moves op = false

abbrev pub updated_by : Known → Op → CType → Tree → Option Kind → Option Kind → Option (CType × Tree)
updated_by known op type value (Some left) (Some right) = Some (updated_integer op left right value)
updated_by known op type value None (Some right) = if moves op && points_to_complete known type then Some (type, value) else None
updated_by known op type value left right = None

abbrev pub updated : Known → Op → Tree → Tree → Option (CType × Tree)
updated known op written value =
    if is_modifiable known written
    then updated_by known op (bare (kind_of written)) value (integer_kind (kind_of written)) (integer_kind (kind_of value))
    else None
