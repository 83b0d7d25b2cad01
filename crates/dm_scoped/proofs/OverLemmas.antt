-- What holds of an operand holds of it after its conversions, which stand above it.
use Rattle.std.specs.Prelude.{◌≡◌, Bool, true, false, ◌&&◌, if◌then◌else◌, List, [], ◌∷◌, Option, Some, None, option_map, refl}
use Rattle.std.proofs.Common.{subst}
use Rattle.dm_int.specs.declared.Kind.{Kind}
use Rattle.dm_int.specs.declared.Kind.TheVariants as k
use Rattle.dm_int.specs.declared.Op.{Op}
use Rattle.dm_int.specs.declared.Op.TheVariants as o
use Rattle.dm_int.specs.Kinds.{promote, common}
use Rattle.dm_type.specs.CTypes.{CType, CTypes, void, integer, pointer, array, struct, function as function_type, no_types, more_types, bare}
use Rattle.dm_tree.specs.declared.tree.Sign.{Sign}
use Rattle.dm_tree.specs.declared.tree.Sign.TheVariants as s
use Rattle.dm_tree.specs.Constants.{integer_kind}
use Rattle.dm_tree.specs.Evaluation.{is_shift}
use Rattle.dm_tree.specs.Trees.{read, decay, convert, Tree, kind_of}
use Rattle.dm_tree.specs.Scenes.{is_lvalue, target, is_pointer, is_scalar}
use Rattle.dm_typing.specs.Known.{Known}
use Rattle.dm_typing.specs.Conversions.{over, is_same, value_of_lvalue, as_value, as_type, as_kind, promoted, is_null}
use Rattle.dm_typing.specs.Rules.{Pair, pair, point_alike, points_to_complete, is_void_pointer, signed_integer, signed, of_kind, of_integers, of_pointer_and_integer, ordered, equated, of_others, of_kinds, operated, arms_by_targets, both_as, arms_of_types, arms_of_kinds, arms, is_assignable, put_before, passed, called, updated_integer, moves, updated_by, updated, is_modifiable}

-- a claim on trees that holds of a node that comes from the syntax of the tree below it, where it holds of that tree
pub record IsKept (P : Tree → Type 0) : Type 0 where
  pub read_kept : (kind : CType) (tree : Tree) → is_lvalue tree ≡ true → P tree → P (over read kind tree)
  pub decay_kept : (kind : CType) (tree : Tree) → is_lvalue tree ≡ true → P tree → P (over decay kind tree)
  pub convert_kept : (kind : CType) (tree : Tree) → P tree → P (over convert kind tree)

-- it holds of each tree of a list
abbrev pub Every : (Tree → Type 0) → List Tree → Type 0
Every P [] = Unit {0}
Every P (tree ∷ trees) = P tree × Every P trees

-- and of what a rule gives
unfoldable pub IfPair : (Tree → Type 0) → (Tree → Type 0) → Option Pair → Type 0
IfPair P Q None = Unit {0}
IfPair P Q (Some it) = P it.left × Q it.right

unfoldable pub IfSigned : (Tree → Type 0) → Option (Tree × CType) → Type 0
IfSigned P None = Unit {0}
IfSigned P (Some it) = P it.0

unfoldable pub IfPassed : (Tree → Type 0) → Option (List Tree) → Type 0
IfPassed P None = Unit {0}
IfPassed P (Some list) = Every P list

unfoldable pub IfCalled : (Tree → Type 0) → Option (CType × List Tree) → Type 0
IfCalled P None = Unit {0}
IfCalled P (Some it) = Every P it.1

unfoldable pub IfUpdated : (Tree → Type 0) → Option (CType × Tree) → Type 0
IfUpdated P None = Unit {0}
IfUpdated P (Some it) = P it.1

pub pair-of : (P Q : Tree → Type 0) (found : Option Pair) (it : Pair) → found ≡ Some it → IfPair P Q found → P it.left × Q it.right
unfolding IfPair
pair-of P Q found it e h = subst (IfPair P Q) e h

pub signed-of : (P : Tree → Type 0) (found : Option (Tree × CType)) (it : Tree × CType) → found ≡ Some it → IfSigned P found → P it.0
unfolding IfSigned
signed-of P found it e h = subst (IfSigned P) e h

pub called-of : (P : Tree → Type 0) (found : Option (CType × List Tree)) (it : CType × List Tree) → found ≡ Some it → IfCalled P found → Every P it.1
unfolding IfCalled
called-of P found it e h = subst (IfCalled P) e h

pub updated-of : (P : Tree → Type 0) (found : Option (CType × Tree)) (it : CType × Tree) → found ≡ Some it → IfUpdated P found → P it.1
unfolding IfUpdated
updated-of P found it e h = subst (IfUpdated P) e h

module _ (P : Tree → Type 0) (kept : IsKept P) where
  lvalue-kept : (type : CType) (tree : Tree) → is_lvalue tree ≡ true → P tree → P (value_of_lvalue type tree)
  lvalue-kept (array type n) tree is h = kept.decay_kept (pointer type) tree is h
  lvalue-kept type tree is h = kept.read_kept (bare type) tree is h

  pub value-kept : (tree : Tree) → P tree → P (as_value tree)
  value-kept tree h = by-test (is_lvalue tree) refl
    where
      by-test : (test : Bool) → is_lvalue tree ≡ test → P (if test then value_of_lvalue (kind_of tree) tree else tree)
      by-test true is = lvalue-kept (kind_of tree) tree is h
      by-test false is = h

  pub type-kept : (kind : CType) (tree : Tree) → P tree → P (as_type kind tree)
  type-kept kind tree h = by-test (is_same (kind_of tree) (bare kind))
    where
      by-test : (test : Bool) → P (if test then tree else over convert (bare kind) tree)
      by-test true = h
      by-test false = kept.convert_kept (bare kind) tree h

  -- ---- unary operators

  signed-integer : (tree : Tree) → P tree → (found : Option Kind) → IfSigned P (option_map (signed_integer tree) found)
  unfolding IfSigned
  signed-integer tree h None = tt
  signed-integer tree h (Some kind) = type-kept (integer (promote kind)) tree h

  pub signed-kept : (sign : Sign) (tree : Tree) → P tree → IfSigned P (signed sign tree)
  unfolding IfSigned
  signed-kept s.Not tree h = by-test (is_scalar (kind_of tree))
    where
      by-test : (test : Bool) → IfSigned P (if test then Some (tree, integer k.Int) else None)
      by-test true = h
      by-test false = tt
  signed-kept sign tree h = signed-integer tree h (integer_kind (kind_of tree))

  -- ---- calls

  before-kept : (tree : Tree) (rest : Option (List Tree)) → P tree → IfPassed P rest → IfPassed P (put_before tree rest)
  unfolding IfPassed
  before-kept tree None h g = tt
  before-kept tree (Some list) h g = (h, g)

  passed-kept : (known : Known) (values : List Tree) (types : CTypes) → Every P values → IfPassed P (passed known values types)
  unfolding IfPassed
  passed-kept known [] no_types h = tt
  passed-kept known [] (more_types type types) h = tt
  passed-kept known (value ∷ values) no_types h = tt
  passed-kept known (value ∷ values) (more_types type types) h =
      by-test (is_assignable known value type) (before-kept (as_type type value) (passed known values types) (type-kept type value h.0) (passed-kept known values types h.1))
    where
      by-test : (test : Bool) → IfPassed P (put_before (as_type type value) (passed known values types))
          → IfPassed P (if test then put_before (as_type type value) (passed known values types) else None)
      by-test true g = g
      by-test false g = tt

  mapped-call : (kind : CType) (found : Option (List Tree)) → IfPassed P found → IfCalled P (option_map (λ list. (kind, list)) found)
  unfolding IfPassed IfCalled
  mapped-call kind None h = tt
  mapped-call kind (Some list) h = h

  pub called-kept : (known : Known) (type : CType) (values : List Tree) → Every P values → IfCalled P (called known type values)
  unfolding IfCalled
  called-kept known (function_type result parameters) values h = mapped-call (bare result) (passed known values parameters) (passed-kept known values parameters h)
  called-kept known type values h = tt

  -- ---- compound assignments

  updated-integer : (op : Op) (left right : Kind) (value : Tree) → P value → IfUpdated P (Some (updated_integer op left right value))
  unfolding IfUpdated
  updated-integer op left right value h = by-test (is_shift op)
    where
      by-test : (test : Bool)
          → IfUpdated P (Some (if test then (integer (promote left), promoted right value) else (integer (common left right), as_kind (common left right) value)))
      by-test true = type-kept (integer (promote right)) value h
      by-test false = type-kept (integer (common left right)) value h

  updated-by-kinds : (known : Known) (op : Op) (type : CType) (value : Tree) → P value → (left right : Option Kind) → IfUpdated P (updated_by known op type value left right)
  unfolding IfUpdated
  updated-by-kinds known op type value h (Some left) (Some right) = updated-integer op left right value h
  updated-by-kinds known op type value h (Some left) None = tt
  updated-by-kinds known op type value h None (Some right) = by-test (moves op && points_to_complete known type)
    where
      by-test : (test : Bool) → IfUpdated P (if test then Some (type, value) else None)
      by-test true = h
      by-test false = tt
  updated-by-kinds known op type value h None None = tt

  pub updated-kept : (known : Known) (op : Op) (written value : Tree) → P value → IfUpdated P (updated known op written value)
  unfolding IfUpdated
  updated-kept known op written value h = by-test (is_modifiable known written)
    where
      by-test : (test : Bool)
          → IfUpdated P (if test then updated_by known op (bare (kind_of written)) value (integer_kind (kind_of written)) (integer_kind (kind_of value)) else None)
      by-test true = updated-by-kinds known op (bare (kind_of written)) value h (integer_kind (kind_of written)) (integer_kind (kind_of value))
      by-test false = tt

-- ---- binary operators

module _ (P Q : Tree → Type 0) (kept : IsKept P) (also_kept : IsKept Q) where
  if-pair : (test : Bool) (one other : Option Pair) → IfPair P Q one → IfPair P Q other → IfPair P Q (if test then one else other)
  if-pair true one other h g = h
  if-pair false one other h g = g

  some-pair : (a b : Tree) (kind : CType) → P a → Q b → IfPair P Q (Some (pair a b kind))
  unfolding IfPair
  some-pair a b kind h g = (h, g)

  none-pair : IfPair P Q None
  unfolding IfPair
  none-pair = tt

  module _ (known : Known) (a b : Tree) (h : P a) (g : Q b) where
    integers-kept : (op : Op) (left right : Kind) → IfPair P Q (Some (of_integers op left right a b))
    integers-kept op left right = by-test (is_shift op)
      where
        by-test : (test : Bool) → IfPair P Q (Some (if test then pair (promoted left a) (promoted right b) (integer (promote left)) else of_kind op (common left right) a b))
        by-test true = some-pair (promoted left a) (promoted right b) _ (type-kept P kept (integer (promote left)) a h) (type-kept Q also_kept (integer (promote right)) b g)
        by-test false = some-pair (as_kind (common left right) a) (as_kind (common left right) b) _ (type-kept P kept (integer (common left right)) a h) (type-kept Q also_kept (integer (common left right)) b g)

    pointed-kept : (op : Op) → IfPair P Q (of_pointer_and_integer known op a b)
    pointed-kept o.Add =
        if-pair _ (Some (pair a b (kind_of a))) _ (some-pair a b _ h g) (if-pair _ (Some (pair a b (kind_of b))) None (some-pair a b _ h g) none-pair)
    pointed-kept o.Sub =
        if-pair _ (Some (pair a b (kind_of a))) _ (some-pair a b _ h g) (if-pair _ (Some (pair a b (integer k.Long))) None (some-pair a b _ h g) none-pair)
    pointed-kept op = none-pair

    ordered-kept : IfPair P Q (ordered a b)
    ordered-kept = if-pair _ (Some (pair a b (integer k.Int))) None (some-pair a b _ h g) none-pair

    equated-kept : IfPair P Q (equated known a b)
    equated-kept =
        let left : IfPair P Q (Some (pair (as_type (kind_of b) a) b (integer k.Int))) = some-pair (as_type (kind_of b) a) b _ (type-kept P kept (kind_of b) a h) g in
        let right : IfPair P Q (Some (pair a (as_type (kind_of a) b) (integer k.Int))) = some-pair a (as_type (kind_of a) b) _ h (type-kept Q also_kept (kind_of a) b g) in
        if-pair (point_alike (kind_of a) (kind_of b)) (Some (pair a b (integer k.Int))) _ (some-pair a b _ h g)
        (if-pair (is_pointer (kind_of a) && is_null known b) (Some (pair a (as_type (kind_of a) b) (integer k.Int))) _ right
        (if-pair (is_pointer (kind_of b) && is_null known a) (Some (pair (as_type (kind_of b) a) b (integer k.Int))) _ left
        (if-pair (is_void_pointer (kind_of a) && is_pointer (kind_of b)) (Some (pair a (as_type (kind_of a) b) (integer k.Int))) _ right
        (if-pair (is_pointer (kind_of a) && is_void_pointer (kind_of b)) (Some (pair (as_type (kind_of b) a) b (integer k.Int))) None left none-pair))))

    others-kept : (op : Op) → IfPair P Q (of_others known op a b)
    others-kept o.Add = pointed-kept o.Add
    others-kept o.Sub = pointed-kept o.Sub
    others-kept o.Less = ordered-kept
    others-kept o.Greater = ordered-kept
    others-kept o.LessEq = ordered-kept
    others-kept o.GreaterEq = ordered-kept
    others-kept o.Equal = equated-kept
    others-kept o.NotEqual = equated-kept
    others-kept op = none-pair

    kinds-kept : (op : Op) (left right : Option Kind) → IfPair P Q (of_kinds known op a b left right)
    kinds-kept op (Some left) (Some right) = integers-kept op left right
    kinds-kept op (Some left) None = others-kept op
    kinds-kept op None right = others-kept op

    pub operated-kept : (op : Op) → IfPair P Q (operated known op a b)
    operated-kept op = kinds-kept op (integer_kind (kind_of a)) (integer_kind (kind_of b))

    -- ---- ?:

    as-both : (kind : CType) → IfPair P Q (Some (both_as a b kind))
    as-both kind = some-pair (as_type kind a) (as_type kind b) kind (type-kept P kept kind a h) (type-kept Q also_kept kind b g)

    mapped-both : (found : Option CType) → IfPair P Q (option_map (both_as a b) found)
    mapped-both None = none-pair
    mapped-both (Some kind) = as-both kind

    arms-of-types : (left right : CType) → IfPair P Q (arms_of_types known a b left right)
    arms-of-types void void = as-both void
    arms-of-types (struct m) (struct n) = if-pair _ (Some (pair a b (struct m))) None (some-pair a b _ h g) none-pair
    arms-of-types left right = mapped-both (arms_by_targets known a b (target left) (target right))

    arms-of-kinds : (left right : Option Kind) → IfPair P Q (arms_of_kinds known a b left right)
    arms-of-kinds (Some left) (Some right) = as-both (integer (common left right))
    arms-of-kinds (Some left) None = arms-of-types (kind_of a) (kind_of b)
    arms-of-kinds None right = arms-of-types (kind_of a) (kind_of b)

    pub arms-kept : IfPair P Q (arms known a b)
    arms-kept = arms-of-kinds (integer_kind (kind_of a)) (integer_kind (kind_of b))
