-- What operators take, after their conversions, fits them.
use Rattle.std.specs.Prelude.{◌≡◌, Bool, true, false, ◌&&◌, ◌||◌, if◌then◌else◌, Option, Some, None, is_some, refl}
use Rattle.std.proofs.Common.{sym, ap, ◌∙◌, subst, subst₂, inl, inr}
use Rattle.dm_int.specs.declared.Kind.{Kind}
use Rattle.dm_int.specs.declared.Kind.TheVariants as k
use Rattle.dm_int.specs.declared.Op.{Op}
use Rattle.dm_int.specs.declared.Op.TheVariants as o
use Rattle.dm_int.specs.Kinds.{promote, common}
use Rattle.dm_type.specs.CTypes.{CType, integer, pointer, bare}
use Rattle.dm_tree.specs.Constants.{integer_kind}
use Rattle.dm_tree.specs.Evaluation.{is_shift}
use Rattle.dm_tree.specs.Trees.{Tree, kind_of}
use Rattle.dm_tree.specs.Scenes.{target, is_integer, is_pointer, is_void, are_alike}
use Rattle.dm_tree.specs.Operands.{FitsBinary, Becomes, BecomesPointer, is_comparison, result_type}
use Rattle.dm_typing.specs.Known.{Known}
use Rattle.dm_typing.specs.Conversions.{as_type, as_kind, promoted, is_null}
use Rattle.dm_typing.specs.Rules.{Pair, pair, of_kind, of_integers, of_pointer_and_integer, of_others, of_kinds, operated, ordered, equated, indexed, points_to_complete, point_alike, are_alike_targets, is_void_pointer, is_void_target}
use Rattle.dm_typing.specs.Sound.{IsProper, scene_of, IsSoundValue}
use Rattle.dm_typing.proofs.KindLemmas.{promoted-again, common-promoted}
use Rattle.dm_typing.proofs.TypeLemmas.{both-hold, compatible-itself}
use Rattle.dm_typing.proofs.ConversionLemmas.{IsOf, as-kind-fits, converted-fits, integer-value, pointer-value, complete-pointer, null-becomes, some-type, or-right}

-- operands of these types fit an operator with a result of this type
abbrev pub FitsTypes : Known → Op → CType → CType → CType → Type 0
FitsTypes known op left right kind = FitsBinary (scene_of known) op left right kind (integer_kind left) (integer_kind right) (target left) (target right)

-- two operands and the type of the whole: they are well typed and fit, and the type is a value's
abbrev pub IsFitting : Known → Op → Tree → Tree → CType → Type 0
IsFitting known op left right kind =
    IsSoundValue known left × IsSoundValue known right × FitsTypes known op (kind_of left) (kind_of right) kind × (kind ≡ bare kind) × IsProper kind

abbrev pub FitsAsPair : Known → Op → Pair → Type 0
FitsAsPair known op one = IsFitting known op one.left one.right one.kind

inside-pair : (known : Known) (op : Op) (one other : Pair) → Some one ≡ Some other → FitsAsPair known op one → FitsAsPair known op other
inside-pair known op one other h fits = let same : one ≡ other = cc in subst (FitsAsPair known op) same fits

-- by the types of the operands
by-types : (known : Known) (op : Op) (left right : Tree) (a b kind : CType) → kind_of left ≡ a → kind_of right ≡ b → FitsTypes known op a b kind
    → FitsTypes known op (kind_of left) (kind_of right) kind
by-types known op left right a b kind p q fits = subst₂ (λ x y. FitsTypes known op x y kind) (sym p) (sym q) fits

-- ---- integers

shift-type : (op : Op) (kind : Kind) → is_shift op ≡ true → integer kind ≡ result_type op kind
shift-type o.Shl kind h = refl
shift-type o.Shr kind h = refl
shift-type op kind h = absurd (cc)

result-bare : (op : Op) (kind : Kind) → result_type op kind ≡ bare (result_type op kind)
result-bare op kind = go (is_comparison op)
  where
    go : (test : Bool) → (if test then integer k.Int else integer kind) ≡ bare (if test then integer k.Int else integer kind)
    go true = refl
    go false = refl

result-proper : (op : Op) (kind : Kind) → IsProper (result_type op kind)
result-proper op kind = go (is_comparison op)
  where
    go : (test : Bool) → IsProper (if test then integer k.Int else integer kind)
    go true = tt
    go false = tt

of-integers-fits : (known : Known) (op : Op) (left right : Kind) (a b : Tree) → IsSoundValue known a → IsSoundValue known b
    → is_integer (kind_of a) ≡ true → is_integer (kind_of b) ≡ true → FitsAsPair known op (of_integers op left right a b)
of-integers-fits known op left right a b sound other first second = go (is_shift op) refl
  where
    go : (test : Bool) → is_shift op ≡ test
        → FitsAsPair known op (if test then pair (promoted left a) (promoted right b) (integer (promote left)) else of_kind op (common left right) a b)
    go true e =
        let one = as-kind-fits known (promote left) a sound first in
        let two = as-kind-fits known (promote right) b other second in (
          one.0,
          two.0,
          by-types known op (promoted left a) (promoted right b) (integer (promote left)) (integer (promote right)) (integer (promote left)) one.1 two.1
              (promoted-again left, promoted-again right, inl e, shift-type op (promote left) e),
          refl,
          tt,
        )
    go false e =
        let one = as-kind-fits known (common left right) a sound first in
        let two = as-kind-fits known (common left right) b other second in (
          one.0,
          two.0,
          by-types known op (as_kind (common left right) a) (as_kind (common left right) b) (integer (common left right)) (integer (common left right)) (result_type op (common left right)) one.1 two.1
              (common-promoted left right, common-promoted left right, inr refl, refl),
          result-bare op (common left right),
          result-proper op (common left right),
        )

-- ---- pointers

moved-right : (known : Known) (a b : Tree) → IsSoundValue known a → IsSoundValue known b → (points_to_complete known (kind_of a) && is_integer (kind_of b)) ≡ true
    → FitsAsPair known o.Add (pair a b (kind_of a))
moved-right known a b sound other h =
    let parts = both-hold (points_to_complete known (kind_of a)) (is_integer (kind_of b)) h in
    let to = complete-pointer known (kind_of a) sound.1 parts.0 in
    let kind = integer-value (kind_of b) other.1 parts.1 in (
      sound,
      other,
      subst₂ (λ x y. FitsTypes known o.Add x y x) (sym to.1) (sym kind.1) (to.2, refl),
      sound.1,
      sound.2,
    )

moved-left : (known : Known) (a b : Tree) → IsSoundValue known a → IsSoundValue known b → (points_to_complete known (kind_of b) && is_integer (kind_of a)) ≡ true
    → FitsAsPair known o.Add (pair a b (kind_of b))
moved-left known a b sound other h =
    let parts = both-hold (points_to_complete known (kind_of b)) (is_integer (kind_of a)) h in
    let to = complete-pointer known (kind_of b) other.1 parts.0 in
    let kind = integer-value (kind_of a) sound.1 parts.1 in (
      sound,
      other,
      subst₂ (λ x y. FitsTypes known o.Add y x x) (sym to.1) (sym kind.1) (to.2, refl),
      other.1,
      other.2,
    )

moved-back : (known : Known) (a b : Tree) → IsSoundValue known a → IsSoundValue known b → (points_to_complete known (kind_of a) && is_integer (kind_of b)) ≡ true
    → FitsAsPair known o.Sub (pair a b (kind_of a))
moved-back known a b sound other h =
    let parts = both-hold (points_to_complete known (kind_of a)) (is_integer (kind_of b)) h in
    let to = complete-pointer known (kind_of a) sound.1 parts.0 in
    let kind = integer-value (kind_of b) other.1 parts.1 in (
      sound,
      other,
      subst₂ (λ x y. FitsTypes known o.Sub x y x) (sym to.1) (sym kind.1) (to.2, refl),
      sound.1,
      sound.2,
    )

-- the targets of two pointers to compatible types
alike-targets : (one other : Option CType) → are_alike_targets one other ≡ true
    → (to : CType) × (from : CType) × (one ≡ Some to) × (other ≡ Some from) × (are_alike to from ≡ true)
alike-targets (Some to) (Some from) h = (to, from, refl, refl, h)
alike-targets one other h = absurd (cc)

-- an operator that tells of two pointers to compatible types gives an int
abbrev IsTelling : Op → Type 0
IsTelling op = (known : Known) (to from : CType) → are_alike to from ≡ true → FitsTypes known op (pointer to) (pointer from) (integer k.Int)

told : (known : Known) (op : Op) → IsTelling op → (a b : Tree) (to from : CType) → IsSoundValue known a → IsSoundValue known b
    → kind_of a ≡ pointer to → kind_of b ≡ pointer from → are_alike to from ≡ true → FitsAsPair known op (pair a b (integer k.Int))
told known op tells a b to from sound other p q alike =
    (sound, other, by-types known op a b (pointer to) (pointer from) (integer k.Int) p q (tells known to from alike), refl, tt)

told-alike : (known : Known) (op : Op) → IsTelling op → (a b : Tree) → IsSoundValue known a → IsSoundValue known b
    → point_alike (kind_of a) (kind_of b) ≡ true → FitsAsPair known op (pair a b (integer k.Int))
told-alike known op tells a b sound other h =
    let both = alike-targets (target (kind_of a)) (target (kind_of b)) h in
    told known op tells a b both.0 both.1 sound other (pointer-value (kind_of a) both.0 sound.1 both.2) (pointer-value (kind_of b) both.1 other.1 both.3) both.4

subtracted : (known : Known) (a b : Tree) → IsSoundValue known a → IsSoundValue known b
    → (points_to_complete known (kind_of a) && points_to_complete known (kind_of b) && point_alike (kind_of a) (kind_of b)) ≡ true
    → FitsAsPair known o.Sub (pair a b (integer k.Long))
subtracted known a b sound other h =
    let all = both-hold (points_to_complete known (kind_of a) && points_to_complete known (kind_of b)) (point_alike (kind_of a) (kind_of b)) h in
    let complete = both-hold (points_to_complete known (kind_of a)) (points_to_complete known (kind_of b)) all.0 in
    let to = complete-pointer known (kind_of a) sound.1 complete.0 in
    let from = complete-pointer known (kind_of b) other.1 complete.1 in
    let alike : are_alike to.0 from.0 ≡ true = subst₂ (λ x y. point_alike x y ≡ true) to.1 from.1 all.1 in
    (sound, other, by-types known o.Sub a b (pointer to.0) (pointer from.0) (integer k.Long) to.1 from.1 (alike, to.2, from.2, refl), refl, tt)

-- ---- what is given fits

abbrev pub AllFit : Known → Op → Option Pair → Type 0
AllFit known op found = (one : Pair) → found ≡ Some one → FitsAsPair known op one

if-fits : (known : Known) (op : Op) (test : Bool) (one : Pair) (rest : Option Pair) → (test ≡ true → FitsAsPair known op one) → AllFit known op rest
    → AllFit known op (if test then Some one else rest)
if-fits known op true one rest fits others it h = inside-pair known op one it h (fits refl)
if-fits known op false one rest fits others it h = others it h

none-fits : (known : Known) (op : Op) → AllFit known op None
none-fits known op it h = absurd (cc)

sums-fit : (known : Known) (a b : Tree) → IsSoundValue known a → IsSoundValue known b → AllFit known o.Add (of_pointer_and_integer known o.Add a b)
sums-fit known a b sound other =
    if-fits known o.Add (points_to_complete known (kind_of a) && is_integer (kind_of b)) _ _ (moved-right known a b sound other)
    (if-fits known o.Add (points_to_complete known (kind_of b) && is_integer (kind_of a)) _ _ (moved-left known a b sound other) (none-fits known o.Add))

differences-fit : (known : Known) (a b : Tree) → IsSoundValue known a → IsSoundValue known b → AllFit known o.Sub (of_pointer_and_integer known o.Sub a b)
differences-fit known a b sound other =
    if-fits known o.Sub (points_to_complete known (kind_of a) && is_integer (kind_of b)) _ _ (moved-back known a b sound other)
    (if-fits known o.Sub (points_to_complete known (kind_of a) && points_to_complete known (kind_of b) && point_alike (kind_of a) (kind_of b)) _ _
    (subtracted known a b sound other) (none-fits known o.Sub))

ordered-fit : (known : Known) (op : Op) → IsTelling op → (a b : Tree) → IsSoundValue known a → IsSoundValue known b → AllFit known op (ordered a b)
ordered-fit known op tells a b sound other =
    if-fits known op (point_alike (kind_of a) (kind_of b)) _ _ (told-alike known op tells a b sound other) (none-fits known op)

-- a value converted to the type of a pointer
pub to-pointer : (known : Known) (kind to : CType) (tree : Tree) → kind ≡ pointer to → IsProper kind → IsSoundValue known tree
    → BecomesPointer (scene_of known) tree to (target (kind_of tree)) → IsOf known (pointer to) (as_type kind tree)
to-pointer known kind to tree p proper sound becomes =
    let is : bare kind ≡ pointer to = ap bare p in
    let one = converted-fits known kind tree sound proper (subst (Becomes (scene_of known) tree) (sym is) becomes) in
    (one.0, one.1 ∙ is)

right-converted : (known : Known) (op : Op) → IsTelling op → (a b : Tree) (to : CType) → IsSoundValue known a → IsSoundValue known b → kind_of a ≡ pointer to
    → BecomesPointer (scene_of known) b to (target (kind_of b)) → FitsAsPair known op (pair a (as_type (kind_of a) b) (integer k.Int))
right-converted known op tells a b to sound other p becomes =
    let one = to-pointer known (kind_of a) to b p sound.2 other becomes in
    told known op tells a (as_type (kind_of a) b) to to sound one.0 p one.1 (compatible-itself (bare to))

left-converted : (known : Known) (op : Op) → IsTelling op → (a b : Tree) (to : CType) → IsSoundValue known a → IsSoundValue known b → kind_of b ≡ pointer to
    → BecomesPointer (scene_of known) a to (target (kind_of a)) → FitsAsPair known op (pair (as_type (kind_of b) a) b (integer k.Int))
left-converted known op tells a b to sound other p becomes =
    let one = to-pointer known (kind_of b) to a p other.2 sound becomes in
    told known op tells (as_type (kind_of b) a) b to to one.0 other one.1 p (compatible-itself (bare to))

void-target : (found : Option CType) → is_void_target found ≡ true → (to : CType) × (found ≡ Some to) × (is_void (bare to) ≡ true)
void-target (Some to) h = (to, refl, h)
void-target None h = absurd (cc)

-- any pointer becomes one to void
pub void-becomes : (known : Known) (tree : Tree) (to from : CType) → target (kind_of tree) ≡ Some from → is_void (bare to) ≡ true
    → BecomesPointer (scene_of known) tree to (target (kind_of tree))
void-becomes known tree to from p v =
    subst (BecomesPointer (scene_of known) tree to) (sym p) (or-right (are_alike from to || is_void (bare from)) (is_void (bare to)) v)

equated-fit : (known : Known) (op : Op) → IsTelling op → (a b : Tree) → IsSoundValue known a → IsSoundValue known b → AllFit known op (equated known a b)
equated-fit known op tells a b sound other =
    if-fits known op (point_alike (kind_of a) (kind_of b)) _ _ (told-alike known op tells a b sound other)
    (if-fits known op (is_pointer (kind_of a) && is_null known b) _ _
    (λ h. let parts = both-hold (is_pointer (kind_of a)) (is_null known b) h in
    let to = some-type (target (kind_of a)) parts.0 in
    right-converted known op tells a b to.0 sound other (pointer-value (kind_of a) to.0 sound.1 to.1) (null-becomes known b to.0 parts.1))
    (if-fits known op (is_pointer (kind_of b) && is_null known a) _ _
    (λ h. let parts = both-hold (is_pointer (kind_of b)) (is_null known a) h in
    let to = some-type (target (kind_of b)) parts.0 in
    left-converted known op tells a b to.0 sound other (pointer-value (kind_of b) to.0 other.1 to.1) (null-becomes known a to.0 parts.1))
    (if-fits known op (is_void_pointer (kind_of a) && is_pointer (kind_of b)) _ _
    (λ h. let parts = both-hold (is_void_pointer (kind_of a)) (is_pointer (kind_of b)) h in
    let to = void-target (target (kind_of a)) parts.0 in
    let from = some-type (target (kind_of b)) parts.1 in
    right-converted known op tells a b to.0 sound other (pointer-value (kind_of a) to.0 sound.1 to.1) (void-becomes known b to.0 from.0 from.1 to.2))
    (if-fits known op (is_pointer (kind_of a) && is_void_pointer (kind_of b)) _ _
    (λ h. let parts = both-hold (is_pointer (kind_of a)) (is_void_pointer (kind_of b)) h in
    let to = void-target (target (kind_of b)) parts.1 in
    let from = some-type (target (kind_of a)) parts.0 in
    left-converted known op tells a b to.0 sound other (pointer-value (kind_of b) to.0 other.1 to.1) (void-becomes known a to.0 from.0 from.1 to.2))
    (none-fits known op)))))

others-fit : (known : Known) (op : Op) (a b : Tree) → IsSoundValue known a → IsSoundValue known b → AllFit known op (of_others known op a b)
others-fit known o.Add a b sound other = sums-fit known a b sound other
others-fit known o.Sub a b sound other = differences-fit known a b sound other
others-fit known o.Less a b sound other = ordered-fit known o.Less (λ known to from h. (h, refl, refl)) a b sound other
others-fit known o.Greater a b sound other = ordered-fit known o.Greater (λ known to from h. (h, refl, refl)) a b sound other
others-fit known o.LessEq a b sound other = ordered-fit known o.LessEq (λ known to from h. (h, refl, refl)) a b sound other
others-fit known o.GreaterEq a b sound other = ordered-fit known o.GreaterEq (λ known to from h. (h, refl, refl)) a b sound other
others-fit known o.Equal a b sound other = equated-fit known o.Equal (λ known to from h. (h, refl, refl)) a b sound other
others-fit known o.NotEqual a b sound other = equated-fit known o.NotEqual (λ known to from h. (h, refl, refl)) a b sound other
others-fit known op a b sound other = none-fits known op

kinds-fit : (known : Known) (op : Op) (a b : Tree) → IsSoundValue known a → IsSoundValue known b → (left right : Option Kind)
    → integer_kind (kind_of a) ≡ left → integer_kind (kind_of b) ≡ right → AllFit known op (of_kinds known op a b left right)
kinds-fit known op a b sound other (Some left) (Some right) p q it h =
    inside-pair known op (of_integers op left right a b) it h
    (of-integers-fits known op left right a b sound other (ap is_some p) (ap is_some q))
kinds-fit known op a b sound other left right p q it h = others-fit known op a b sound other it h

-- what a binary operator takes fits it
pub operated-fits : (known : Known) (op : Op) (a b : Tree) → IsSoundValue known a → IsSoundValue known b → AllFit known op (operated known op a b)
operated-fits known op a b sound other = kinds-fit known op a b sound other (integer_kind (kind_of a)) (integer_kind (kind_of b)) refl refl

-- the pointer and the integer of a subscript are those of a sum
fits-type : (known : Known) (a b : Tree) (test : Bool) (one : CType) (rest : Option CType) (type : CType)
    → (test ≡ true → IsFitting known o.Add a b one) → (rest ≡ Some type → IsFitting known o.Add a b type)
    → (if test then Some one else rest) ≡ Some type → IsFitting known o.Add a b type
fits-type known a b true one rest type fits others h = let same : one ≡ type = cc in subst (IsFitting known o.Add a b) same (fits refl)
fits-type known a b false one rest type fits others h = others h

pub indexed-fits : (known : Known) (a b : Tree) → IsSoundValue known a → IsSoundValue known b → (type : CType) → indexed known (kind_of a) (kind_of b) ≡ Some type
    → IsFitting known o.Add a b type
indexed-fits known a b sound other type h =
    fits-type known a b (points_to_complete known (kind_of a) && is_integer (kind_of b)) (kind_of a) _ type (moved-right known a b sound other)
    (fits-type known a b (points_to_complete known (kind_of b) && is_integer (kind_of a)) (kind_of b) None type (moved-left known a b sound other) (λ none. absurd (cc))) h
