-- What the code of operators between two operands finds on the way (6.5.5 to 6.5.12), and its operands after their conversions.
--     pair_by later a b way      two operands after their conversions, whatever numbers come
--     sides_of op left right      the kinds to which an operator brings integers of these kinds
--     family_of op      what an operator may do with operands that are not both integers
--     equal_by known a b      which of two pointers that are compared is converted to the type of the other
use Rattle.std.specs.Prelude.{ℕ, Bool, ◌&&◌, if◌then◌else◌, List, [], ◌∷◌, Option, Some, None, option_map, IfSome}
use Rattle.dm_int.specs.declared.Kind.{Kind}
use Rattle.dm_int.specs.declared.Kind.TheVariants as k
use Rattle.dm_int.specs.declared.Op.{Op}
use Rattle.dm_int.specs.declared.Op.TheVariants as o
use Rattle.dm_int.specs.Kinds.{promote, common}
use Rattle.dm_type.specs.declared.shape.Shape.{Shape}
use Rattle.dm_type.specs.CTypes.{CType, integer}
use Rattle.dm_type.specs.Tables.{Table, IsId}
use Rattle.dm_syn.specs.Sources.{Source}
use Rattle.dm_tree.specs.Evaluation.{is_shift}
use Rattle.dm_tree.specs.Scenes.{is_integer, is_pointer}
use Rattle.dm_tree.specs.Trees.{Tree, kind_of}
use Rattle.dm_tree.specs.Trees as label
use Rattle.dm_typing.specs.Known.{Known}
use Rattle.dm_typing.specs.Conversions.{made, as_type, is_null}
use Rattle.dm_typing.specs.declared.extent.Extent.{Extent}
use Rattle.dm_typing.specs.Rules.{Pair, pair, points_to_complete, point_alike, is_void_pointer, of_integers, of_pointer_and_integer, ordered, equated, of_others}
use Rattle.dm_typing.specs.Views.{type_over}
use Rattle.dm_ebinary.specs.declared.ways.Way.{Way}
use Rattle.dm_ebinary.specs.declared.ways.Sides.{Sides}
use Rattle.dm_ebinary.specs.declared.operations.Family.{Family}
use Rattle.dm_ebinary.specs.declared.operations.Family.TheVariants as family
use Rattle.dm_ebinary.specs.declared.operations.Brought.{Brought}
use Rattle.dm_ebinary.specs.declared.operations.Brought.TheVariants as brought

-- ---- pairs

-- a tree after its conversion to a type, if there is one
abbrev pub as_type_if : Option CType → Tree → Tree
as_type_if None tree = tree
as_type_if (Some type) tree = as_type type tree

-- two operands after their conversions, and the type of the whole
abbrev pub pair_by : List Shape → Tree → Tree → Way → Pair
pair_by later a b way = pair (as_type_if (option_map (type_over later) way.left) a) (as_type_if (option_map (type_over later) way.right) b) (type_over later way.kind)

-- these types are numbered
abbrev pub IsWay : Table → Way → Type 0
IsWay types way = IfSome way.left (IsId types) × IfSome way.right (IsId types) × IsId types way.kind

-- the node of an operator on two operands after their conversions
abbrev pub operation : Source → Extent → Op → Pair → Tree
operation source extent op both = made source extent (label.binary op) both.kind (both.left ∷ both.right ∷ [])

-- ---- integers

abbrev pub sides : Kind → Kind → Sides
sides left right = record { left = left; right = right }

-- the kinds of two integers
abbrev pub both_kinds : Option Kind → Option Kind → Option Sides
both_kinds (Some left) (Some right) = Some (sides left right)
both_kinds left right = None

-- of a shift each operand is promoted (6.5.7p3), and others come to their common kind (6.3.1.8)
abbrev pub sides_of : Op → Kind → Kind → Sides
sides_of op left right = if is_shift op then sides (promote left) (promote right) else sides (common left right) (common left right)

-- by the kinds of the operands, if both are integers
abbrev pub by_kinds : Known → Op → Tree → Tree → Option Sides → Option Pair
by_kinds known op a b (Some kinds) = Some (of_integers op kinds.left kinds.right a b)
by_kinds known op a b None = of_others known op a b

-- ---- pointers

-- what an operator may do with operands that are not both integers
abbrev pub family_of : Op → Family
family_of o.Add = family.Sum
family_of o.Sub = family.Difference
family_of o.Less = family.Order
family_of o.Greater = family.Order
family_of o.LessEq = family.Order
family_of o.GreaterEq = family.Order
family_of o.Equal = family.Equality
family_of o.NotEqual = family.Equality
family_of op = family.Integers

abbrev pub by_family : Known → Tree → Tree → Family → Option Pair
by_family known a b family.Sum = of_pointer_and_integer known o.Add a b
by_family known a b family.Difference = of_pointer_and_integer known o.Sub a b
by_family known a b family.Order = ordered a b
by_family known a b family.Equality = equated known a b
by_family known a b family.Integers = None

-- a pointer to a complete object type, and an integer
abbrev pub moves_by : Known → CType → CType → Bool
moves_by known type other = points_to_complete known type && is_integer other

-- two pointers to compatible complete object types
abbrev pub have_distance : Known → CType → CType → Bool
have_distance known a b = points_to_complete known a && points_to_complete known b && point_alike a b

-- a pointer, and a null pointer constant
abbrev pub is_beside_null : Known → CType → Tree → Bool
is_beside_null known type tree = is_pointer type && is_null known tree

-- of two pointers that are compared: which is converted to the type of the other (6.5.9p5)
abbrev pub equal_by : Known → Tree → Tree → Option Brought
equal_by known a b =
    if point_alike (kind_of a) (kind_of b) then Some brought.Neither
    else if is_beside_null known (kind_of a) b then Some brought.Right
    else if is_beside_null known (kind_of b) a then Some brought.Left
    else if is_void_pointer (kind_of a) && is_pointer (kind_of b) then Some brought.Right
    else if is_pointer (kind_of a) && is_void_pointer (kind_of b) then Some brought.Left
    else None

abbrev pub equated_by : Tree → Tree → Brought → Pair
equated_by a b brought.Neither = pair a b (integer k.Int)
equated_by a b brought.Right = pair a (as_type (kind_of a) b) (integer k.Int)
equated_by a b brought.Left = pair (as_type (kind_of b) a) b (integer k.Int)

-- the same by the numbers of their types
abbrev pub compared_as : Brought → ℕ → ℕ → ℕ → Way
compared_as brought.Neither a b kind = record { left = None; right = None; kind = kind }
compared_as brought.Right a b kind = record { left = None; right = Some a; kind = kind }
compared_as brought.Left a b kind = record { left = Some b; right = None; kind = kind }
