-- Operators between two operands, as the code types them.
use Rattle.std.specs.Prelude.{◌≡◌, ℕ, ◌<◌, Bool, true, false, ◌&&◌, if◌then◌else◌, is_some, List, [], length, Option, Some, None, option_map, option_and_then, refl}
use Rattle.std.proofs.Common.{sym, ap, ◌∙◌, arith}
use Rattle.dm_int.specs.declared.Kind.{Kind}
use Rattle.dm_int.specs.declared.Kind.TheVariants as k
use Rattle.dm_int.specs.declared.Op.{Op}
use Rattle.dm_int.specs.declared.Op.TheVariants as o
use Rattle.dm_type.specs.declared.shape.Shape.{Shape}
use Rattle.dm_type.specs.CTypes.{CType, integer}
use Rattle.dm_type.specs.Tables.{Table, type_of, IsId}
use Rattle.dm_syn.specs.declared.symbol.Symbol.{Symbol}
use Rattle.dm_syn.specs.declared.symbol.Symbol.TheVariants as symbol
use Rattle.dm_tree.specs.declared.tree.Core.{Core, out-Core}
use Rattle.dm_tree.specs.Constants.{integer_kind}
use Rattle.dm_tree.specs.Operands.{result_type}
use Rattle.dm_tree.specs.Scenes.{is_integer, is_pointer}
use Rattle.dm_tree.specs.Trees.{Tree, kind_of}
use Rattle.dm_typing.specs.declared.extent.Extent.{Extent}
use Rattle.dm_typing.specs.declared.known.Known.{Known as Held}
use Rattle.dm_typing.specs.Known.{Known, Setting}
use Rattle.dm_typing.specs.Operators.{row_at, operator_of_row}
use Rattle.dm_typing.specs.Conversions.{as_type, as_kind}
use Rattle.dm_typing.specs.Fitting.{IsNumbered}
use Rattle.dm_typing.specs.Rules.{Pair, pair, indexed, points_to_complete, point_alike, is_void_pointer, of_integers, of_pointer_and_integer, of_others, of_kinds, operated, ordered, equated}
use Rattle.dm_typing.specs.Typing.{typed_operation, typed_binary}
use Rattle.dm_typing.specs.Views.{Begins, type_over, view_over, known_over, seen}
use Rattle.dm_ebinary.specs.declared.ways.Sides.{Sides}
use Rattle.dm_ebinary.specs.declared.operations.Brought.{Brought}
use Rattle.dm_ebinary.specs.declared.operations.Brought.TheVariants as brought
use Rattle.dm_ebinary.specs.Pairs.{both_kinds, sides_of, pair_by, IsWay, compared_as, by_kinds, family_of, by_family, moves_by, have_distance, is_beside_null, equal_by, equated_by}
use Rattle.dm_typing.proofs.GivesLemmas.{complete-alone}
use Rattle.dm_typing.proofs.LaterLemmas.{begins-length}
use Rattle.dm_typing.proofs.ValueLemmas.{kind-later, kind-view, kind-known}

-- ---- symbols

-- an operator that is neither && nor || is one on values
pub binary-other : (setting : Setting) (known : Known) (extent : Extent) (operator : ℕ) (a b : Tree) (it : Symbol) → (it ≡ symbol.And → ⊥) → (it ≡ symbol.Or → ⊥)
    → typed_binary setting known extent operator a b it ≡ typed_operation setting known extent a b (option_and_then operator_of_row (row_at setting.source operator))
binary-other setting known extent operator a b symbol.And one other = absurd (one refl)
binary-other setting known extent operator a b symbol.Or one other = absurd (other refl)
binary-other setting known extent operator a b it one other = refl

-- ---- tests of two types

-- what a test says of the types of two trees, whatever numbers come
pub two-later : {X : Type 0} (found : Known → CType → CType → X) (held : Held) (later : List Shape) (a b : Core) → Begins held.types.shapes later
    → IsNumbered held.types a → IsNumbered held.types b → ((s t : CType) → found (known_over later held) s t ≡ found (seen held) s t)
    → found (known_over later held) (kind_of (view_over later a)) (kind_of (view_over later b)) ≡ found (seen held) (type_of held.types (out-Core a).kind) (type_of held.types (out-Core b).kind)
two-later found held later a b begins left right alone =
    ap (λ t. found (known_over later held) t (kind_of (view_over later b))) (kind-later held.types.shapes later a begins left)
    ∙ ap (found (known_over later held) (type_of held.types (out-Core a).kind)) (kind-later held.types.shapes later b begins right)
    ∙ alone (type_of held.types (out-Core a).kind) (type_of held.types (out-Core b).kind)

-- the same where only the types count
pub types-alone : {X : Type 0} (found : CType → CType → X) (held : Held) (later : List Shape) (a b : Core) → Begins held.types.shapes later
    → IsNumbered held.types a → IsNumbered held.types b
    → found (kind_of (view_over later a)) (kind_of (view_over later b)) ≡ found (type_of held.types (out-Core a).kind) (type_of held.types (out-Core b).kind)
types-alone found held later a b begins left right =
    ap (λ t. found t (kind_of (view_over later b))) (kind-later held.types.shapes later a begins left)
    ∙ ap (found (type_of held.types (out-Core a).kind)) (kind-later held.types.shapes later b begins right)

-- ---- integers

-- what an operator gives on integers, by the kinds to which they are brought
pub integers-brought : (op : Op) (left right : Kind) (a b : Tree)
    → of_integers op left right a b ≡ pair (as_kind (sides_of op left right).left a) (as_kind (sides_of op left right).right b) (result_type op (sides_of op left right).left)
integers-brought o.Add left right a b = refl
integers-brought o.Sub left right a b = refl
integers-brought o.Mul left right a b = refl
integers-brought o.Div left right a b = refl
integers-brought o.Rem left right a b = refl
integers-brought o.Shl left right a b = refl
integers-brought o.Shr left right a b = refl
integers-brought o.Less left right a b = refl
integers-brought o.Greater left right a b = refl
integers-brought o.LessEq left right a b = refl
integers-brought o.GreaterEq left right a b = refl
integers-brought o.Equal left right a b = refl
integers-brought o.NotEqual left right a b = refl
integers-brought o.And left right a b = refl
integers-brought o.Xor left right a b = refl
integers-brought o.Or left right a b = refl

-- three parts of a pair that are made one by one
pub three-parts : (one left other right : Tree) (kind type : CType) → one ≡ left → other ≡ right → kind ≡ type → pair one other kind ≡ pair left right type
three-parts one left other right kind type p q r = ap (λ t. pair t other kind) p ∙ ap (λ t. pair left t kind) q ∙ ap (pair left right) r

-- two operands that are brought to such kinds
pub integers-so : (op : Op) (left right : Kind) (a b one other : Tree) (type : CType) (kinds : Sides) → kinds ≡ sides_of op left right
    → one ≡ as_kind kinds.left a → other ≡ as_kind kinds.right b → type ≡ result_type op kinds.left → pair one other type ≡ of_integers op left right a b
integers-so op left right a b one other type kinds is p q r =
    three-parts one (as_kind kinds.left a) other (as_kind kinds.right b) type (result_type op kinds.left) p q r
    ∙ ap (λ (it : Sides). pair (as_kind it.left a) (as_kind it.right b) (result_type op it.left)) is
    ∙ sym (integers-brought op left right a b)

kinds-decide : (known : Known) (op : Op) (a b : Tree) (left right : Option Kind) → of_kinds known op a b left right ≡ by_kinds known op a b (both_kinds left right)
kinds-decide known op a b (Some left) (Some right) = refl
kinds-decide known op a b (Some left) None = refl
kinds-decide known op a b None (Some right) = refl
kinds-decide known op a b None None = refl

-- what the kinds of two trees decide, whatever numbers come
pub by-kinds-later : (held : Held) (later : List Shape) (op : Op) (a b : Core) (found : Option Sides) → Begins held.types.shapes later → IsNumbered held.types a → IsNumbered held.types b
    → found ≡ both_kinds (integer_kind (type_of held.types (out-Core a).kind)) (integer_kind (type_of held.types (out-Core b).kind))
    → by_kinds (known_over later held) op (view_over later a) (view_over later b) found ≡ operated (known_over later held) op (view_over later a) (view_over later b)
by-kinds-later held later op a b found begins left right is =
    ap (by_kinds (known_over later held) op (view_over later a) (view_over later b))
    (is ∙ sym (types-alone (λ s t. both_kinds (integer_kind s) (integer_kind t)) held later a b begins left right))
    ∙ sym (kinds-decide (known_over later held) op (view_over later a) (view_over later b) (integer_kind (kind_of (view_over later a))) (integer_kind (kind_of (view_over later b))))

-- ---- others

pub families-decide : (known : Known) (op : Op) (a b : Tree) → of_others known op a b ≡ by_family known a b (family_of op)
families-decide known o.Add a b = refl
families-decide known o.Sub a b = refl
families-decide known o.Mul a b = refl
families-decide known o.Div a b = refl
families-decide known o.Rem a b = refl
families-decide known o.Shl a b = refl
families-decide known o.Shr a b = refl
families-decide known o.Less a b = refl
families-decide known o.Greater a b = refl
families-decide known o.LessEq a b = refl
families-decide known o.GreaterEq a b = refl
families-decide known o.Equal a b = refl
families-decide known o.NotEqual a b = refl
families-decide known o.And a b = refl
families-decide known o.Xor a b = refl
families-decide known o.Or a b = refl

-- ---- sums

chosen-pair : (one other : Bool) (a b : Tree) (left right : CType)
    → (if one then Some (pair a b left) else if other then Some (pair a b right) else None) ≡ option_map (pair a b) (if one then Some left else if other then Some right else None)
chosen-pair true other a b left right = refl
chosen-pair false true a b left right = refl
chosen-pair false false a b left right = refl

-- of a sum as of a subscript one operand is a pointer, and the other an integer
pub sum-as-subscript : (known : Known) (a b : Tree) → of_pointer_and_integer known o.Add a b ≡ option_map (pair a b) (indexed known (kind_of a) (kind_of b))
sum-as-subscript known a b =
    chosen-pair (points_to_complete known (kind_of a) && is_integer (kind_of b)) (points_to_complete known (kind_of b) && is_integer (kind_of a)) a b (kind_of a) (kind_of b)

-- ---- differences

moves-alone : (held : Held) (later : List Shape) (s t : CType) → moves_by (known_over later held) s t ≡ moves_by (seen held) s t
moves-alone held later s t = ap (λ found. is_some found && is_integer t) (complete-alone later held s)

distance-alone : (held : Held) (later : List Shape) (s t : CType) → have_distance (known_over later held) s t ≡ have_distance (seen held) s t
distance-alone held later s t =
    ap (λ found. is_some found && points_to_complete (known_over later held) t && point_alike s t) (complete-alone later held s)
    ∙ ap (λ found. points_to_complete (seen held) s && is_some found && point_alike s t) (complete-alone later held t)

abbrev difference : Bool → Bool → Tree → Tree → Option Pair
difference moves apart a b = if moves then Some (pair a b (kind_of a)) else if apart then Some (pair a b (integer k.Long)) else None

module _ (held : Held) (later : List Shape) (a b : Core) (begins : Begins held.types.shapes later) (left : IsNumbered held.types a) (right : IsNumbered held.types b) where
  abbrev one : Tree
  one = view_over later a

  abbrev other : Tree
  other = view_over later b

  abbrev now : Known
  now = known_over later held

  pub difference-moves : moves_by (seen held) (type_of held.types (out-Core a).kind) (type_of held.types (out-Core b).kind) ≡ true
      → of_pointer_and_integer now o.Sub one other ≡ Some (pair one other (kind_of one))
  difference-moves h =
      ap (λ t. difference t (have_distance now (kind_of one) (kind_of other)) one other) (two-later moves_by held later a b begins left right (moves-alone held later) ∙ h)

  pub difference-apart : moves_by (seen held) (type_of held.types (out-Core a).kind) (type_of held.types (out-Core b).kind) ≡ false
      → (apart : Bool) → have_distance (seen held) (type_of held.types (out-Core a).kind) (type_of held.types (out-Core b).kind) ≡ apart
      → of_pointer_and_integer now o.Sub one other ≡ (if apart then Some (pair one other (integer k.Long)) else None)
  difference-apart h apart d =
      ap (λ t. difference t (have_distance now (kind_of one) (kind_of other)) one other) (two-later moves_by held later a b begins left right (moves-alone held later) ∙ h)
      ∙ ap (λ t. difference false t one other) (two-later have_distance held later a b begins left right (distance-alone held later) ∙ d)

  -- ---- comparisons

  pub ordered-later : (alike : Bool) → point_alike (type_of held.types (out-Core a).kind) (type_of held.types (out-Core b).kind) ≡ alike
      → ordered one other ≡ (if alike then Some (pair one other (integer k.Int)) else None)
  ordered-later alike h = ap (λ t. if t then Some (pair one other (integer k.Int)) else None) (types-alone point_alike held later a b begins left right ∙ h)

  abbrev first_of : Bool → Bool → Bool → Bool → Bool → Option Brought
  first_of alike right_null left_null left_void right_void =
      if alike then Some brought.Neither else if right_null then Some brought.Right else if left_null then Some brought.Left
      else if left_void then Some brought.Right else if right_void then Some brought.Left else None

  abbrev right_null : Bool
  right_null = is_beside_null now (kind_of one) other

  abbrev left_null : Bool
  left_null = is_beside_null now (kind_of other) one

  abbrev left_void : Bool
  left_void = is_void_pointer (kind_of one) && is_pointer (kind_of other)

  abbrev right_void : Bool
  right_void = is_pointer (kind_of one) && is_void_pointer (kind_of other)

  -- the tests one by one
  alike-is : (p : Bool) → p ≡ point_alike (type_of held.types (out-Core a).kind) (type_of held.types (out-Core b).kind) → point_alike (kind_of one) (kind_of other) ≡ p
  alike-is p h = types-alone point_alike held later a b begins left right ∙ sym h

  right-null-is : (p : Bool) → p ≡ is_beside_null now (type_of held.types (out-Core a).kind) other → right_null ≡ p
  right-null-is p h = ap (λ t. is_beside_null now t other) (kind-later held.types.shapes later a begins left) ∙ sym h

  left-null-is : (p : Bool) → p ≡ is_beside_null now (type_of held.types (out-Core b).kind) one → left_null ≡ p
  left-null-is p h = ap (λ t. is_beside_null now t one) (kind-later held.types.shapes later b begins right) ∙ sym h

  left-void-is : (p : Bool) → p ≡ (is_void_pointer (type_of held.types (out-Core a).kind) && is_pointer (type_of held.types (out-Core b).kind)) → left_void ≡ p
  left-void-is p h = types-alone (λ s t. is_void_pointer s && is_pointer t) held later a b begins left right ∙ sym h

  right-void-is : (p : Bool) → p ≡ (is_pointer (type_of held.types (out-Core a).kind) && is_void_pointer (type_of held.types (out-Core b).kind)) → right_void ≡ p
  right-void-is p h = types-alone (λ s t. is_pointer s && is_void_pointer t) held later a b begins left right ∙ sym h

  pub equal-alike : true ≡ point_alike (type_of held.types (out-Core a).kind) (type_of held.types (out-Core b).kind) → Some brought.Neither ≡ equal_by now one other
  equal-alike h = sym (ap (λ t. first_of t right_null left_null left_void right_void) (alike-is true h))

  module _ (unlike : false ≡ point_alike (type_of held.types (out-Core a).kind) (type_of held.types (out-Core b).kind)) where
    step-alike : equal_by now one other ≡ first_of false right_null left_null left_void right_void
    step-alike = ap (λ t. first_of t right_null left_null left_void right_void) (alike-is false unlike)

    pub equal-right-null : true ≡ is_beside_null now (type_of held.types (out-Core a).kind) other → Some brought.Right ≡ equal_by now one other
    equal-right-null h = sym (step-alike ∙ ap (λ t. first_of false t left_null left_void right_void) (right-null-is true h))

    module _ (no_right : false ≡ is_beside_null now (type_of held.types (out-Core a).kind) other) where
      step-right : equal_by now one other ≡ first_of false false left_null left_void right_void
      step-right = step-alike ∙ ap (λ t. first_of false t left_null left_void right_void) (right-null-is false no_right)

      pub equal-left-null : true ≡ is_beside_null now (type_of held.types (out-Core b).kind) one → Some brought.Left ≡ equal_by now one other
      equal-left-null h = sym (step-right ∙ ap (λ t. first_of false false t left_void right_void) (left-null-is true h))

      module _ (no_left : false ≡ is_beside_null now (type_of held.types (out-Core b).kind) one) where
        step-left : equal_by now one other ≡ first_of false false false left_void right_void
        step-left = step-right ∙ ap (λ t. first_of false false t left_void right_void) (left-null-is false no_left)

        pub equal-left-void : true ≡ (is_void_pointer (type_of held.types (out-Core a).kind) && is_pointer (type_of held.types (out-Core b).kind)) → Some brought.Right ≡ equal_by now one other
        equal-left-void h = sym (step-left ∙ ap (λ t. first_of false false false t right_void) (left-void-is true h))

        module _ (no_left_void : false ≡ (is_void_pointer (type_of held.types (out-Core a).kind) && is_pointer (type_of held.types (out-Core b).kind))) where
          step-void : equal_by now one other ≡ first_of false false false false right_void
          step-void = step-left ∙ ap (λ t. first_of false false false t right_void) (left-void-is false no_left_void)

          pub equal-right-void : true ≡ (is_pointer (type_of held.types (out-Core a).kind) && is_void_pointer (type_of held.types (out-Core b).kind)) → Some brought.Left ≡ equal_by now one other
          equal-right-void h = sym (step-void ∙ ap (λ t. first_of false false false false t) (right-void-is true h))

          pub equal-never : false ≡ (is_pointer (type_of held.types (out-Core a).kind) && is_void_pointer (type_of held.types (out-Core b).kind)) → None ≡ equal_by now one other
          equal-never h = sym (step-void ∙ ap (λ t. first_of false false false false t) (right-void-is false h))

tests-decide : (alike second_null first_null first_void second_void : Bool) (a b : Tree)
    → (if alike then Some (pair a b (integer k.Int))
    else if second_null then Some (pair a (as_type (kind_of a) b) (integer k.Int))
    else if first_null then Some (pair (as_type (kind_of b) a) b (integer k.Int))
    else if first_void then Some (pair a (as_type (kind_of a) b) (integer k.Int))
    else if second_void then Some (pair (as_type (kind_of b) a) b (integer k.Int))
    else None)
    ≡ option_map (equated_by a b)
    (if alike then Some brought.Neither else if second_null then Some brought.Right else if first_null then Some brought.Left
    else if first_void then Some brought.Right else if second_void then Some brought.Left else None)
tests-decide true second_null first_null first_void second_void a b = refl
tests-decide false true first_null first_void second_void a b = refl
tests-decide false false true first_void second_void a b = refl
tests-decide false false false true second_void a b = refl
tests-decide false false false false true a b = refl
tests-decide false false false false false a b = refl

-- two pointers are compared where one is brought to the type of the other
pub equated-brought : (known : Known) (a b : Tree) → equated known a b ≡ option_map (equated_by a b) (equal_by known a b)
equated-brought known a b =
    tests-decide (point_alike (kind_of a) (kind_of b)) (is_beside_null known (kind_of a) b) (is_beside_null known (kind_of b) a)
    (is_void_pointer (kind_of a) && is_pointer (kind_of b)) (is_pointer (kind_of a) && is_void_pointer (kind_of b)) a b

-- ---- what the code finds

pub still-numbered : (a b : List Shape) (id : ℕ) → Begins a b → id < length a → id < length b
still-numbered a b id begins inside = let le = begins-length a b begins in omega (arith, le, inside)

-- two pointers of which one is converted, by the numbers of their types
pub compared-so : (later : List Shape) (a b : Core) (it : Brought) (kind : ℕ) → type_over later kind ≡ integer k.Int
    → pair_by later (view_over later a) (view_over later b) (compared_as it (out-Core a).kind (out-Core b).kind kind) ≡ equated_by (view_over later a) (view_over later b) it
compared-so later a b brought.Neither kind h = ap (pair (view_over later a) (view_over later b)) h
compared-so later a b brought.Right kind h =
    ap (pair (view_over later a) (as_type (type_over later (out-Core a).kind) (view_over later b))) h
    ∙ ap (λ t. pair (view_over later a) (as_type t (view_over later b)) (integer k.Int)) (sym (kind-view (record { shapes = later; structs = [] }) a))
compared-so later a b brought.Left kind h =
    ap (pair (as_type (type_over later (out-Core b).kind) (view_over later a)) (view_over later b)) h
    ∙ ap (λ t. pair (as_type t (view_over later a)) (view_over later b) (integer k.Int)) (sym (kind-view (record { shapes = later; structs = [] }) b))

pub compared-numbered : (old new : Table) (a b : Core) (it : Brought) (kind : ℕ) → Begins old.shapes new.shapes → IsNumbered old a → IsNumbered old b → IsId new kind
    → IsWay new (compared_as it (out-Core a).kind (out-Core b).kind kind)
compared-numbered old new a b brought.Neither kind begins left right inside = (tt, tt, inside)
compared-numbered old new a b brought.Right kind begins left right inside =
    (tt, still-numbered old.shapes new.shapes (out-Core a).kind begins (kind-known (length old.shapes) a left), inside)
compared-numbered old new a b brought.Left kind begins left right inside =
    (still-numbered old.shapes new.shapes (out-Core b).kind begins (kind-known (length old.shapes) b right), tt, inside)
