-- The arms of ?:.
use Rattle.std.specs.Prelude.{◌≡◌, ℕ, Bool, true, false, ◌||◌, not, ◌==◌, if◌then◌else◌, Option, Some, None, is_some, option_map, refl}
use Rattle.std.proofs.Common.{sym, ap, ◌∙◌, subst}
use Rattle.dm_int.specs.declared.Kind.{Kind}
use Rattle.dm_int.specs.Kinds.{number_of, common}
use Rattle.dm_type.specs.Alike.{are_compatible, match_as_parameters, composite, composite_parameters, lengths_agree, known_length}
use Rattle.dm_type.specs.CTypes.{CType, CTypes, void, integer, pointer, array, struct, function as function_type, const, no_types, more_types, bare, is_const, with_const}
use Rattle.dm_tree.specs.Constants.{integer_kind}
use Rattle.dm_tree.specs.Trees.{Tree, kind_of}
use Rattle.dm_tree.specs.Scenes.{target, is_integer, is_scalar, is_void, is_array, are_alike}
use Rattle.dm_tree.specs.Operands.{BecomesPointer, IsArmType}
use Rattle.dm_typing.specs.declared.extent.Extent.{Extent}
use Rattle.dm_typing.specs.Known.{Known, Setting}
use Rattle.dm_typing.specs.Conversions.{is_null}
use Rattle.dm_typing.specs.Rules.{Pair, pair, both_as, with_const_if, pointer_arms, arms_by_targets, arms_of_types, arms_of_kinds, arms}
use Rattle.dm_typing.specs.Typing.{typed_choice}
use Rattle.dm_typing.specs.Sound.{IsProper, AreProper, scene_of, IsSoundValue, Gives}
use Rattle.dm_typing.proofs.KindLemmas.{common-promoted, same-numbers, numbers-same}
use Rattle.dm_typing.proofs.TypeLemmas.{both-hold, both-true, compatible-itself, compatible-back, unqualified}
use Rattle.dm_typing.proofs.ConversionLemmas.{obeyed, given-if, bare-proper, pointer-value, converted-fits, as-kind-fits, null-becomes, or-left}
use Rattle.dm_typing.proofs.MemberLemmas.{with-const-proper}
use Rattle.dm_typing.proofs.OperandLemmas.{to-pointer, void-becomes}

-- an arm that becomes a type, and is of it then
IsArm : Known → Tree → Tree → CType → Type 0
IsArm known left right kind =
    IsSoundValue known left × IsSoundValue known right × (kind_of left ≡ kind) × (kind_of right ≡ kind) × IsArmType kind × (kind ≡ bare kind) × IsProper kind

IsArms : Known → Pair → Type 0
IsArms known one = IsArm known one.left one.right one.kind

AllArms : Known → Option Pair → Type 0
AllArms known found = (one : Pair) → found ≡ Some one → IsArms known one

inside-arms : (known : Known) (one other : Pair) → Some one ≡ Some other → IsArms known one → IsArms known other
inside-arms known one other h fits = let same : one ≡ other = cc in subst (IsArms known) same fits

both-kinds : (known : Known) (left right : Kind) (a b : Tree) → IsSoundValue known a → IsSoundValue known b → is_integer (kind_of a) ≡ true → is_integer (kind_of b) ≡ true
    → IsArms known (both_as a b (integer (common left right)))
unfolding IsArms IsArm
both-kinds known left right a b sound other p q =
    let one = as-kind-fits known (common left right) a sound p in
    let two = as-kind-fits known (common left right) b other q in
    (one.0, two.0, one.1, two.1, common-promoted left right, refl, tt)

-- both pointers become one to such a type
both-pointers : (known : Known) (a b : Tree) (kind to : CType) → IsSoundValue known a → IsSoundValue known b → kind ≡ pointer to → IsProper kind
    → BecomesPointer (scene_of known) a to (target (kind_of a)) → BecomesPointer (scene_of known) b to (target (kind_of b)) → IsArms known (both_as a b kind)
unfolding IsArms IsArm
both-pointers known a b kind to sound other p proper left right =
    let one = to-pointer known kind to a p proper sound left in
    let two = to-pointer known kind to b p proper other right in
    (one.0, two.0, one.1 ∙ sym p, two.1 ∙ sym p, subst IsArmType (sym p) tt, p ∙ sym (ap bare p), proper)

-- a pointer becomes its own type
itself-becomes : (known : Known) (tree : Tree) (to : CType) → target (kind_of tree) ≡ Some to → BecomesPointer (scene_of known) tree to (target (kind_of tree))
itself-becomes known tree to p =
    subst (BecomesPointer (scene_of known) tree to) (sym p)
    (or-left (are_alike to to || is_void (bare to)) (is_void (bare to)) (or-left (are_alike to to) (is_void (bare to)) (compatible-itself (bare to))))

null-right : (known : Known) (a b : Tree) (to : CType) → IsSoundValue known a → IsSoundValue known b → target (kind_of a) ≡ Some to → is_null known b ≡ true
    → IsArms known (both_as a b (kind_of a))
null-right known a b to sound other p null =
    both-pointers known a b (kind_of a) to sound other (pointer-value (kind_of a) to sound.1 p) sound.2 (itself-becomes known a to p) (null-becomes known b to null)

null-left : (known : Known) (a b : Tree) (to : CType) → IsSoundValue known a → IsSoundValue known b → target (kind_of b) ≡ Some to → is_null known a ≡ true
    → IsArms known (both_as a b (kind_of b))
null-left known a b to sound other p null =
    both-pointers known a b (kind_of b) to sound other (pointer-value (kind_of b) to other.1 p) other.2 (null-becomes known a to null) (itself-becomes known b to p)

void-proper : (test : Bool) → IsProper (with_const_if test void)
void-proper true = (refl, tt)
void-proper false = tt

void-bare : (test : Bool) → is_void (bare (with_const_if test void)) ≡ true
void-bare true = refl
void-bare false = refl

-- ---- composite types

agree-known : (m n : Option ℕ) → lengths_agree m n ≡ true → lengths_agree m (known_length m n) ≡ true
agree-known None n h = refl
agree-known (Some m) n h = numbers-same m m refl

agree-other : (m n : Option ℕ) → lengths_agree m n ≡ true → lengths_agree n (known_length m n) ≡ true
agree-other None None h = refl
agree-other None (Some n) h = numbers-same n n refl
agree-other (Some m) None h = refl
agree-other (Some m) (Some n) h = numbers-same n m (sym (same-numbers m n h))

pub plain-part : (one other : Bool) → not (one || other) ≡ true → not one ≡ true
plain-part true other h = absurd (cc)
plain-part false other h = refl

-- a composite type is as plain as its first
pub composite-bare : (a b : CType) → not (is_const a) ≡ true → bare (composite a b) ≡ composite a b
composite-bare (const a) b h = absurd (cc)
composite-bare void b h = refl
composite-bare (integer kind) b h = refl
composite-bare (struct n) b h = refl
composite-bare (pointer a) (pointer b) h = refl
composite-bare (array a m) (array b n) h = refl
composite-bare (function_type a parameters) (function_type b others) h = refl
composite-bare a b h = refl

pub composite-plain : (a b : CType) → not (is_const a || is_array a) ≡ true → not (is_const (composite a b) || is_array (composite a b)) ≡ true
composite-plain (const a) b h = absurd (cc)
composite-plain (array a n) b h = absurd (cc)
composite-plain (pointer a) (pointer b) h = refl
composite-plain (function_type a parameters) (function_type b others) h = refl
composite-plain a b h = refl

-- what is compatible with a plain type is one
plain-back : (a b : CType) → are_compatible a b ≡ true → not (is_const b || is_array b) ≡ true → not (is_const a || is_array a) ≡ true
plain-back (const a) (const b) h p = absurd (cc)
plain-back (array a m) (array b n) h p = absurd (cc)
plain-back (const a) b h p = absurd (cc)
plain-back (array a m) b h p = absurd (cc)
plain-back a b h p = refl

pub const-plain : (type : CType) → not (is_const type || is_array type) ≡ true → with_const type ≡ const type
const-plain (const type) h = absurd (cc)
const-plain (array type n) h = absurd (cc)
const-plain void h = refl
const-plain type h = refl

const-back : (type : CType) → not (is_const type || is_array type) ≡ true → bare (with_const type) ≡ type
const-back (const type) h = absurd (cc)
const-back (array type n) h = absurd (cc)
const-back void h = refl
const-back type h = refl

const-type : (type : CType) → IsProper type → is_const type ≡ true → not (is_const (bare type) || is_array (bare type)) ≡ true
const-type (const type) p h = p.0
const-type type p h = absurd (cc)

bare-type : (type : CType) → IsProper type → not (is_const (bare type)) ≡ true
bare-type (const type) p = plain-part (is_const type) (is_array type) p.0
bare-type type p = refl

mutual
  -- a type is compatible with what it makes with another
  composite-left : (a b : CType) → IsProper a → are_compatible a b ≡ true → are_compatible a (composite a b) ≡ true
  composite-left void void p h = refl
  composite-left (integer kind) (integer other) p h = numbers-same (number_of kind) (number_of kind) refl
  composite-left (pointer a) (pointer b) p h = composite-left a b p h
  composite-left (array a m) (array b n) p h =
      let parts = both-hold (lengths_agree m n) (are_compatible a b) h in
      both-true (lengths_agree m (known_length m n)) (are_compatible a (composite a b)) (agree-known m n parts.0) (composite-left a b p parts.1)
  composite-left (struct m) (struct n) p h = numbers-same m m refl
  composite-left (function_type a parameters) (function_type b others) p h =
      let parts = both-hold (are_compatible a b) (match_as_parameters parameters others) h in
      both-true (are_compatible a (composite a b)) (match_as_parameters parameters (composite_parameters parameters others)) (composite-left a b p.0 parts.0)
      (parameters-left parameters others p.1 parts.1)
  composite-left (const a) (const b) p h =
      subst (λ it. are_compatible (const a) it ≡ true) (sym (const-plain (composite a b) (composite-plain a b p.0))) (composite-left a b p.1 h)
  composite-left a b p h = absurd (cc)

  parameters-left : (types others : CTypes) → AreProper types → match_as_parameters types others ≡ true
      → match_as_parameters types (composite_parameters types others) ≡ true
  parameters-left no_types no_types p h = refl
  parameters-left (more_types (const a) types) (more_types b others) p h =
      let parts = both-hold (are_compatible a (bare b)) (match_as_parameters types others) h in
      let plain : bare (composite a (bare b)) ≡ composite a (bare b) = composite-bare a (bare b) (plain-part (is_const a) (is_array a) p.0.0) in
      both-true (are_compatible a (bare (composite a (bare b)))) (match_as_parameters types (composite_parameters types others))
      (subst (λ it. are_compatible a it ≡ true) (sym plain) (composite-left a (bare b) p.0.1 parts.0)) (parameters-left types others p.1 parts.1)
  parameters-left (more_types a types) (more_types b others) p h =
      let parts = both-hold (are_compatible a (bare b)) (match_as_parameters types others) h in
      let plain : bare (composite a (bare b)) ≡ composite a (bare b) = composite-bare a (bare b) refl in
      both-true (are_compatible a (bare (composite a (bare b)))) (match_as_parameters types (composite_parameters types others))
      (subst (λ it. are_compatible a it ≡ true) (sym plain) (composite-left a (bare b) p.0 parts.0)) (parameters-left types others p.1 parts.1)
  parameters-left types others p h = absurd (cc)

  composite-right : (a b : CType) → IsProper a → IsProper b → are_compatible a b ≡ true → are_compatible b (composite a b) ≡ true
  composite-right void void p q h = refl
  composite-right (integer kind) (integer other) p q h = compatible-back (integer kind) (integer other) h
  composite-right (pointer a) (pointer b) p q h = composite-right a b p q h
  composite-right (array a m) (array b n) p q h =
      let parts = both-hold (lengths_agree m n) (are_compatible a b) h in
      both-true (lengths_agree n (known_length m n)) (are_compatible b (composite a b)) (agree-other m n parts.0) (composite-right a b p q parts.1)
  composite-right (struct m) (struct n) p q h = compatible-back (struct m) (struct n) h
  composite-right (function_type a parameters) (function_type b others) p q h =
      let parts = both-hold (are_compatible a b) (match_as_parameters parameters others) h in
      both-true (are_compatible b (composite a b)) (match_as_parameters others (composite_parameters parameters others)) (composite-right a b p.0 q.0 parts.0)
      (parameters-right parameters others p.1 q.1 parts.1)
  composite-right (const a) (const b) p q h =
      subst (λ it. are_compatible (const b) it ≡ true) (sym (const-plain (composite a b) (composite-plain a b p.0))) (composite-right a b p.1 q.1 h)
  composite-right a b p q h = absurd (cc)

  parameters-right : (types others : CTypes) → AreProper types → AreProper others → match_as_parameters types others ≡ true
      → match_as_parameters others (composite_parameters types others) ≡ true
  parameters-right no_types no_types p q h = refl
  parameters-right (more_types (const a) types) (more_types b others) p q h =
      let parts = both-hold (are_compatible a (bare b)) (match_as_parameters types others) h in
      let plain : bare (composite a (bare b)) ≡ composite a (bare b) = composite-bare a (bare b) (plain-part (is_const a) (is_array a) p.0.0) in
      unqualified b (composite a (bare b)) others (composite_parameters types others)
      ∙ both-true (are_compatible (bare b) (bare (composite a (bare b)))) (match_as_parameters others (composite_parameters types others))
      (subst (λ it. are_compatible (bare b) it ≡ true) (sym plain) (composite-right a (bare b) p.0.1 (bare-proper b q.0) parts.0)) (parameters-right types others p.1 q.1 parts.1)
  parameters-right (more_types a types) (more_types b others) p q h =
      let parts = both-hold (are_compatible a (bare b)) (match_as_parameters types others) h in
      let plain : bare (composite a (bare b)) ≡ composite a (bare b) = composite-bare a (bare b) refl in
      unqualified b (composite a (bare b)) others (composite_parameters types others)
      ∙ both-true (are_compatible (bare b) (bare (composite a (bare b)))) (match_as_parameters others (composite_parameters types others))
      (subst (λ it. are_compatible (bare b) it ≡ true) (sym plain) (composite-right a (bare b) p.0 (bare-proper b q.0) parts.0)) (parameters-right types others p.1 q.1 parts.1)
  parameters-right types others p q h = absurd (cc)

mutual
  pub composite-proper : (a b : CType) → IsProper a → IsProper b → IsProper (composite a b)
  composite-proper (pointer a) (pointer b) p q = composite-proper a b p q
  composite-proper (array a m) (array b n) p q = composite-proper a b p q
  composite-proper (function_type a parameters) (function_type b others) p q = (composite-proper a b p.0 q.0, composites-proper parameters others p.1 q.1)
  composite-proper (const a) (const b) p q = with-const-proper (composite a b) (composite-proper a b p.1 q.1)
  composite-proper a b p q = p

  composites-proper : (types others : CTypes) → AreProper types → AreProper others → AreProper (composite_parameters types others)
  composites-proper (more_types (const a) types) (more_types b others) p q = (composite-proper a (bare b) p.0.1 (bare-proper b q.0), composites-proper types others p.1 q.1)
  composites-proper (more_types a types) (more_types b others) p q = (composite-proper a (bare b) p.0 (bare-proper b q.0), composites-proper types others p.1 q.1)
  composites-proper types others p q = tt

-- ---- two pointers to compatible types

abbrev joined : CType → CType → CType
joined to from = with_const_if (is_const to || is_const from) (composite (bare to) (bare from))

joined-bare : (to from : CType) → IsProper to → IsProper from → are_alike to from ≡ true → bare (joined to from) ≡ composite (bare to) (bare from)
joined-bare to from p q h = go (is_const to) refl (is_const from) refl
  where
    go : (one : Bool) → is_const to ≡ one → (other : Bool) → is_const from ≡ other
        → bare (with_const_if (one || other) (composite (bare to) (bare from))) ≡ composite (bare to) (bare from)
    go true e other f = const-back (composite (bare to) (bare from)) (composite-plain (bare to) (bare from) (const-type to p e))
    go false e true f =
        const-back (composite (bare to) (bare from)) (composite-plain (bare to) (bare from) (plain-back (bare to) (bare from) h (const-type from q f)))
    go false e false f = composite-bare (bare to) (bare from) (bare-type to p)

joined-proper : (to from : CType) → IsProper to → IsProper from → IsProper (joined to from)
joined-proper to from p q = go (is_const to || is_const from)
  where
    go : (test : Bool) → IsProper (with_const_if test (composite (bare to) (bare from)))
    go true = with-const-proper (composite (bare to) (bare from)) (composite-proper (bare to) (bare from) (bare-proper to p) (bare-proper from q))
    go false = composite-proper (bare to) (bare from) (bare-proper to p) (bare-proper from q)

alike-becomes : (known : Known) (tree : Tree) (to from : CType) → target (kind_of tree) ≡ Some from → are_compatible (bare from) (bare to) ≡ true
    → BecomesPointer (scene_of known) tree to (target (kind_of tree))
alike-becomes known tree to from p h =
    subst (BecomesPointer (scene_of known) tree to) (sym p) (or-left (are_alike from to || is_void (bare from)) (is_void (bare to)) (or-left (are_alike from to) (is_void (bare from)) h))

AllKinds : Known → Tree → Tree → Option CType → Type 0
AllKinds known a b found = (kind : CType) → found ≡ Some kind → IsArms known (both_as a b kind)

if-kind : (known : Known) (a b : Tree) (test : Bool) (one : CType) (rest : Option CType) → (test ≡ true → IsArms known (both_as a b one)) → AllKinds known a b rest
    → AllKinds known a b (if test then Some one else rest)
unfolding AllKinds
if-kind known a b true one rest fits others kind h = let same : one ≡ kind = cc in subst (λ it. IsArms known (both_as a b it)) same (fits refl)
if-kind known a b false one rest fits others kind h = others kind h

no-kind : (known : Known) (a b : Tree) → AllKinds known a b None
unfolding AllKinds
no-kind known a b kind h = absurd (cc)

pointers-fit : (known : Known) (a b : Tree) (to from : CType) → IsSoundValue known a → IsSoundValue known b → target (kind_of a) ≡ Some to → target (kind_of b) ≡ Some from
    → AllKinds known a b (pointer_arms known a b to from)
pointers-fit known a b to from sound other p q =
    let left : IsProper to = subst IsProper (pointer-value (kind_of a) to sound.1 p) sound.2 in
    let right : IsProper from = subst IsProper (pointer-value (kind_of b) from other.1 q) other.2 in
    if-kind known a b (are_alike to from) _ _
    (λ h. let is = joined-bare to from left right h in
    both-pointers known a b (pointer (joined to from)) (joined to from) sound other refl (joined-proper to from left right)
    (alike-becomes known a (joined to from) to p
    (subst (λ it. are_compatible (bare to) it ≡ true) (sym is) (composite-left (bare to) (bare from) (bare-proper to left) h)))
    (alike-becomes known b (joined to from) from q
    (subst (λ it. are_compatible (bare from) it ≡ true) (sym is) (composite-right (bare to) (bare from) (bare-proper to left) (bare-proper from right) h))))
    (if-kind known a b (is_null known b) _ _ (λ h. null-right known a b to sound other p h)
    (if-kind known a b (is_null known a) _ _ (λ h. null-left known a b from sound other q h)
    (if-kind known a b (is_void (bare to) || is_void (bare from)) _ _
    (λ h. let kind = with_const_if (is_const to || is_const from) void in
    both-pointers known a b (pointer kind) kind sound other refl (void-proper (is_const to || is_const from))
    (void-becomes known a kind to p (void-bare (is_const to || is_const from))) (void-becomes known b kind from q (void-bare (is_const to || is_const from))))
    (no-kind known a b))))

targets-fit : (known : Known) (a b : Tree) → IsSoundValue known a → IsSoundValue known b → (one other : Option CType) → target (kind_of a) ≡ one → target (kind_of b) ≡ other
    → AllKinds known a b (arms_by_targets known a b one other)
targets-fit known a b sound other (Some to) (Some from) p q = pointers-fit known a b to from sound other p q
targets-fit known a b sound other (Some to) None p q = if-kind known a b (is_null known b) _ _ (λ h. null-right known a b to sound other p h) (no-kind known a b)
targets-fit known a b sound other None (Some from) p q = if-kind known a b (is_null known a) _ _ (λ h. null-left known a b from sound other q h) (no-kind known a b)
targets-fit known a b sound other None None p q = no-kind known a b

mapped : (known : Known) (a b : Tree) (found : Option CType) → AllKinds known a b found → AllArms known (option_map (both_as a b) found)
unfolding AllKinds AllArms
mapped known a b (Some kind) fits one h = inside-arms known (both_as a b kind) one h (fits kind refl)
mapped known a b None fits one h = absurd (cc)

by-targets : (known : Known) (a b : Tree) → IsSoundValue known a → IsSoundValue known b → (left right : CType) → kind_of a ≡ left → kind_of b ≡ right
    → AllArms known (option_map (both_as a b) (arms_by_targets known a b (target left) (target right)))
by-targets known a b sound other left right p q =
    mapped known a b (arms_by_targets known a b (target left) (target right)) (targets-fit known a b sound other (target left) (target right) (ap target p) (ap target q))

types-fit : (known : Known) (a b : Tree) → IsSoundValue known a → IsSoundValue known b → (left right : CType) → kind_of a ≡ left → kind_of b ≡ right
    → AllArms known (arms_of_types known a b left right)
unfolding AllArms IsArms IsArm
types-fit known a b sound other void void p q one h =
    let left = converted-fits known void a sound tt tt in
    let right = converted-fits known void b other tt tt in
    inside-arms known (both_as a b void) one h (left.0, right.0, left.1, right.1, tt, refl, tt)
types-fit known a b sound other (struct m) (struct n) p q one h = go (m == n) refl h
  where
    go : (test : Bool) → (m == n) ≡ test → (if test then Some (pair a b (struct m)) else None) ≡ Some one → IsArms known one
    go true e h = inside-arms known (pair a b (struct m)) one h (sound, other, p, q ∙ ap struct (sym (same-numbers m n e)), tt, refl, tt)
    go false e h = absurd (cc)
types-fit known a b sound other left right p q one h = by-targets known a b sound other left right p q one h

kinds-fit : (known : Known) (a b : Tree) → IsSoundValue known a → IsSoundValue known b → (left right : Option Kind)
    → integer_kind (kind_of a) ≡ left → integer_kind (kind_of b) ≡ right → AllArms known (arms_of_kinds known a b left right)
unfolding AllArms
kinds-fit known a b sound other (Some left) (Some right) p q one h =
    inside-arms known (both_as a b (integer (common left right))) one h (both-kinds known left right a b sound other (ap is_some p) (ap is_some q))
kinds-fit known a b sound other left right p q one h = types-fit known a b sound other (kind_of a) (kind_of b) refl refl one h

pub choice-gives : (setting : Setting) (known : Known) (span : Extent) (condition a b : Tree) → IsSoundValue known condition → IsSoundValue known a → IsSoundValue known b
    → Gives known IsSoundValue (typed_choice setting known span condition a b)
unfolding AllArms IsArms IsArm
choice-gives setting known span condition a b sound left right =
    obeyed known IsSoundValue (is_scalar (kind_of condition)) 27 span.inner.first _
    (λ scalar. given-if known IsSoundValue (arms known a b) 27 span.inner.first _
    (λ one h. let fits = kinds-fit known a b left right (integer_kind (kind_of a)) (integer_kind (kind_of b)) refl refl one h in (
      refl,
      (
        refl,
        fits.5,
        fits.6,
        (((sound.0, scalar), fits.0.0, fits.1.0, fits.2, fits.3, fits.4), (sound.3, (fits.0.3, (fits.1.3, tt)))),
      ),
    )))
