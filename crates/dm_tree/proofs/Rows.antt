-- Examples of the definitions: constant expressions and their values, and trees that are well typed or aren't.
use Rattle.std.specs.Prelude.{◌≡◌, ℕ, ℤ, pos, negsuc, false, List, [], ◌∷◌, Option, Some, None, refl}
use Rattle.std.proofs.Common.{rules}
use Rattle.std.proofs.lemmas.Bool.{false≢true}
use Rattle.dm_int.specs.declared.Kind.TheVariants.{Char, Int, UInt, ULong}
use Rattle.dm_int.specs.declared.Op.TheVariants.{Add, Mul, Div, Shl, Less}
use Rattle.dm_type.specs.CTypes.{CType, void, integer, pointer}
use Rattle.dm_type.specs.Tables.{no_type}
use Rattle.dm_tree.specs.declared.tree.Sign.TheVariants.{Minus}
use Rattle.dm_tree.specs.declared.unit.Linkage.TheVariants.{Absent}
use Rattle.dm_tree.specs.declared.unit.Sort.TheVariants.{Object, Enumerator}
use Rattle.dm_tree.specs.Constants.{constant}
use Rattle.dm_tree.specs.Scenes.{Scene, HasConst, itself}
use Rattle.dm_tree.specs.Trees as label
use Rattle.dm_tree.specs.Trees.{Label, Spans, Tree, node, trees}
use Rattle.dm_tree.specs.Typing.{file_scene, IsWellTyped}
use Rattle.dm_tree.specs.Units.{Declaration}

-- the first token of a file
abbrev first_token : Spans
first_token =
    record { inner = record { first = 0; after = 1 }; outer = record { first = 0; after = 1 }; place = record { file = 0; byte = 0; line = 1; column = 1 } }

abbrev tree_of : Label → CType → List Tree → Tree
tree_of form kind parts = node form kind first_token (trees parts)

abbrev int : ℕ → Tree
int n = tree_of (label.number (pos n)) (integer Int) []

-- two entries: an int object `x`, and an enumerator of the value 5
abbrev entries : List Declaration
entries =
    record { name = []; sort = Object false; kind = integer Int; linkage = Absent; place = record { file = 0; byte = 0; line = 1; column = 1 } }
    ∷ record { name = []; sort = Enumerator (pos 5); kind = integer Int; linkage = Absent; place = record { file = 0; byte = 0; line = 1; column = 1 } } ∷ []

abbrev object_x : Tree
object_x = tree_of (label.object 0) (integer Int) []

abbrev value_of_x : Tree
value_of_x = tree_of label.read (integer Int) (object_x ∷ [])

abbrev quotient : ℕ → ℕ → Tree
quotient a b = tree_of (label.binary Div) (integer Int) (int a ∷ int b ∷ [])

-- ---- constant expressions (6.6)

abbrev value_of : Tree → Option ℤ
value_of tree = constant no_type entries tree

-- 3 * 4
product : value_of (tree_of (label.binary Mul) (integer Int) (int 3 ∷ int 4 ∷ [])) ≡ Some (pos 12)
product = refl

-- 1 / 0
quotient_by_zero : value_of (quotient 1 0) ≡ None
quotient_by_zero = refl

-- 1 << 32
wide_shift : value_of (tree_of (label.binary Shl) (integer Int) (int 1 ∷ int 32 ∷ [])) ≡ None
wide_shift = refl

abbrev minus_one : Tree
minus_one = tree_of (label.unary Minus) (integer Int) (int 1 ∷ [])

-- -1 < 1u
unsigned_comparison : value_of (tree_of (label.binary Less) (integer Int) (tree_of label.convert (integer UInt) (minus_one ∷ []) ∷ tree_of (label.number (pos 1)) (integer UInt) [] ∷ [])) ≡ Some (pos 0)
unsigned_comparison = refl

-- (char)200
narrow : value_of (tree_of label.convert (integer Char) (int 200 ∷ [])) ≡ Some (negsuc 55)
narrow = refl

-- sizeof (char), and sizeof x
size_of_char : value_of (tree_of (label.sizeof_kind (integer Char)) (integer ULong) []) ≡ Some (pos 1)
size_of_char = refl

size_of_object : value_of (tree_of label.sizeof_tree (integer ULong) (object_x ∷ [])) ≡ Some (pos 4)
size_of_object = refl

-- the enumerator
enumerator_value : value_of (tree_of (label.enumerator 1) (integer Int) []) ≡ Some (pos 5)
enumerator_value = refl

abbrev choice : Tree → Tree → Tree → Tree
choice a b c = tree_of label.choose (integer Int) (a ∷ b ∷ c ∷ [])

abbrev comma : Tree
comma = tree_of label.comma (integer Int) (int 3 ∷ int 4 ∷ [])

-- a fault or a comma where nothing is evaluated, and where something is (6.6p3): 0 && 1 / 0, 1 || 1 / 0, 1 && 1 / 0, 1 ? 2 : 1 / 0,
-- 1 ? 2 : (3, 4), 0 ? 2 : (3, 4), and (3, 4)
left_out : value_of (tree_of label.both (integer Int) (int 0 ∷ quotient 1 0 ∷ [])) ≡ Some (pos 0)
left_out = refl

left_out_too : value_of (tree_of label.either (integer Int) (int 1 ∷ quotient 1 0 ∷ [])) ≡ Some (pos 1)
left_out_too = refl

evaluated : value_of (tree_of label.both (integer Int) (int 1 ∷ quotient 1 0 ∷ [])) ≡ None
evaluated = refl

third_left_out : value_of (choice (int 1) (int 2) (quotient 1 0)) ≡ Some (pos 2)
third_left_out = refl

comma_left_out : value_of (choice (int 1) (int 2) comma) ≡ Some (pos 2)
comma_left_out = refl

comma_evaluated : value_of (choice (int 0) (int 2) comma) ≡ None
comma_evaluated = refl

comma_alone : value_of comma ≡ None
comma_alone = refl

-- an object is no operand, also where it isn't evaluated (6.6p6): 1 ? 2 : x; and a conversion to a pointer is none: !(int *)0
object_left_out : value_of (choice (int 1) (int 2) value_of_x) ≡ None
object_left_out = refl

pointer_value : value_of (tree_of label.convert (pointer (integer Int)) (int 0 ∷ [])) ≡ None
pointer_value = refl

-- ---- well-typed trees

abbrev scene : Scene
scene = file_scene no_type entries

-- int isn't const
int_is_plain : HasConst no_type (integer Int) → ⊥
int_is_plain (itself type is) = false≢true is

-- x + 1
sum_is_typed : IsWellTyped scene (tree_of (label.binary Add) (integer Int) (value_of_x ∷ int 1 ∷ []))
sum_is_typed = search rules

-- x = 1
store_is_typed : IsWellTyped scene (tree_of label.store (integer Int) (object_x ∷ int 1 ∷ []))
store_is_typed = search (rules, int_is_plain)

-- 1 = 2
no_lvalue : IsWellTyped scene (tree_of label.store (integer Int) (int 1 ∷ int 2 ∷ [])) → ⊥
no_lvalue typed = false≢true typed.0.0.0

-- x + 1 as an unsigned int
wrong_type : IsWellTyped scene (tree_of (label.binary Add) (integer UInt) (value_of_x ∷ int 1 ∷ [])) → ⊥
wrong_type typed = absurd (cc)

-- while (x) break;
loop_is_typed : IsWellTyped scene (tree_of label.while_loop void (value_of_x ∷ tree_of label.break void [] ∷ []))
loop_is_typed = search rules

-- break;
no_loop : IsWellTyped scene (tree_of label.break void []) → ⊥
no_loop typed = false≢true typed.0.0
