-- What initialises an object with static storage is such as 6.6 and 6.7.9p4 say, at the end of the unit too.
use Rattle.std.specs.Prelude.{◌≡◌, ◌==◌, ℕ, ℤ, pos, ◌⊎◌, Bool, true, false, ◌&&◌, ◌||◌, not, if◌then◌else◌, List, [], ◌∷◌, Option, Some, None, is_some, IsSome, option_and_then, slice_get, refl}
use Rattle.std.proofs.Common.{sym, ap, ◌∙◌, subst, inl, inr, ⊎_elim}
use Rattle.dm_token.specs.declared.place.Span.{Span}
use Rattle.dm_int.specs.declared.Kind.{Kind}
use Rattle.dm_int.specs.declared.Op.TheVariants as o
use Rattle.dm_type.specs.CTypes.{CType, void, integer, pointer, array, struct, bare}
use Rattle.dm_tree.specs.Constants.{integer_kind, is_constant_form, is_constant_part, constant_value, converted_to}
use Rattle.dm_tree.specs.Initialisers.{is_fixed, is_same_span, shares_tokens, unconverted, Reach, nowhere, place, start, element_address, reach_of_object, subscripted, reach_at, reach, reaches, IsAddressConstant, IsNullConstant, IsStaticValue, FitsDecay}
use Rattle.dm_tree.specs.Operands.{FitsBinary}
use Rattle.dm_tree.specs.Scenes.{Scene, constant_of as constant_in, IsZero, target}
use Rattle.dm_tree.specs.Trees.{Label, Spans, Tree, Trees, node, no_trees, more_trees, kind_of, spans_of, listed, label_of, is_statement}
use Rattle.dm_tree.specs.Trees as label
use Rattle.dm_tree.specs.Typing.{FitsExpression, IsWellTyped, AreWellTyped}
use Rattle.dm_tree.specs.Units.{Declaration}
use Rattle.dm_typing.specs.Known.{Known}
use Rattle.dm_typing.specs.Later.{IsLater}
use Rattle.dm_typing.specs.Conversions.{over, is_same, as_type, constant_of, is_zero, is_null}
use Rattle.dm_typing.specs.Rules.{is_assignable, assignable_to, pointer_assignable}
use Rattle.dm_typing.specs.Sound.{AreComplete, scene_of, IsSoundValue}
use Rattle.dm_typing.proofs.ConversionLemmas.{zero-value, formed, constant-integer, no-pointer}
use Rattle.dm_typing.proofs.ExpressionLemmas.{AreExpressions, value-expression, expressions-in, fits-expression, inside-expression}
use Rattle.dm_typing.proofs.GrowthLemmas.{constant-stays, some-stays}
use Rattle.dm_typing.proofs.KindLemmas.{numbers-same}
use Rattle.dm_typing.proofs.TypeLemmas.{both-true}
use Rattle.dm_edecl.specs.Initialising.{is_constant_expression, is_place, is_start, is_address_constant, is_static_value, has_value}

-- ---- conversions that are implied

same-span : (span : Span) → is_same_span span span ≡ true
same-span span = both-true (span.first == span.first) (span.after == span.after) (numbers-same span.first span.first refl) (numbers-same span.after span.after refl)

chosen : {A : Type 0} (test : Bool) (one other : A) → test ≡ true → (if test then one else other) ≡ one
chosen true one other h = refl
chosen false one other h = absurd (cc)

-- the operand of a conversion that the typing puts over it
unconverted-over : (type : CType) (value : Tree) → unconverted (over label.convert type value) ≡ value
unconverted-over type value =
    chosen (shares_tokens (spans_of value) value) value (node label.convert type (spans_of value) (more_trees value no_trees)) (same-span (spans_of value).inner)

-- ---- null pointer constants

zero-null : (scene : Scene) (tree : Tree) → IsZero scene tree → IsNullConstant scene tree
zero-null scene (node label.convert (pointer void) spans (more_trees operand rest)) h = absurd (cc)
zero-null scene tree h = h

-- a null pointer constant is one without an implied conversion, or has a value
abbrev IsNullValue : Scene → Tree → Type 0
IsNullValue scene tree = IsSome (constant_in scene tree) ⊎ IsNullConstant scene (unconverted tree)

null-by : (scene : Scene) (spans : Spans) (operand : Tree) (test : Bool) → IsZero scene operand
    → IsNullConstant scene (if test then operand else node label.convert (pointer void) spans (more_trees operand no_trees))
null-by scene spans operand true h = zero-null scene operand h
null-by scene spans operand false h = h

is-some : {A : Type 0} (found : Option A) (it : A) → found ≡ Some it → is_some found ≡ true
is-some (Some one) it h = refl
is-some None it h = absurd (cc)

three-or : (a b c : Bool) → (a || b || c) ≡ true → (a ≡ true) ⊎ ((b ≡ true) ⊎ (c ≡ true))
three-or true b c h = inl refl
three-or false true c h = inr (inl refl)
three-or false false c h = inr (inr h)

if-holds : (one other : Bool) → (not one || other) ≡ true → one ≡ true → other ≡ true
if-holds true other h e = h
if-holds false other h e = absurd (cc)

-- ---- constants that are converted

module _ (scene : Scene) (value : Tree) (it : ℤ) (e : constant_in scene value ≡ Some it) where
  value-form : is_constant_form value ≡ true
  value-form = formed (is_constant_form value) (constant_value scene.types scene.declared value) it e

  value-is : constant_value scene.types scene.declared value ≡ Some it
  value-is = subst (λ test. (if test then constant_value scene.types scene.declared value else None) ≡ Some it) value-form e

  converted-some : (kind : Kind) → is_some (constant_in scene (over label.convert (integer kind) value)) ≡ true
  converted-some kind =
      subst
      (λ form. is_some
      (if is_some (integer_kind (integer kind)) && is_constant_part label.convert (form ∷ [])
      then option_and_then (converted_to (integer kind)) (constant_value scene.types scene.declared value) else None)
      ≡ true)
      (sym value-form) (subst (λ found. is_some (option_and_then (converted_to (integer kind)) found) ≡ true) (sym value-is) refl)

-- ---- address constants

-- how a tree reaches an object stays
Kept : Reach → Reach → Type 0
Kept nowhere other = Unit {0}
Kept place other = other ≡ place
Kept start other = other ≡ start
Kept element_address other = other ≡ element_address

AllKept : List Reach → List Reach → Type 0
AllKept [] [] = Unit {0}
AllKept (one ∷ others) (two ∷ more) = Kept one two × AllKept others more
AllKept others more = ⊥

kept-itself : (reached : Reach) → Kept reached reached
unfolding Kept
kept-itself nowhere = tt
kept-itself place = refl
kept-itself start = refl
kept-itself element_address = refl

kept-if : (test other : Bool) (reached : Reach) → (test ≡ true → other ≡ true) → Kept (if test then reached else nowhere) (if other then reached else nowhere)
unfolding Kept
kept-if false other reached f = tt
kept-if true other reached f = subst (λ it. Kept reached (if it then reached else nowhere)) (sym (f refl)) (kept-itself reached)

kept-place : (one other : Reach) → Kept one other → is_place one ≡ true → other ≡ place
unfolding Kept
kept-place place other k h = k
kept-place nowhere other k h = absurd (cc)
kept-place start other k h = absurd (cc)
kept-place element_address other k h = absurd (cc)

kept-start : (one other : Reach) → Kept one other → is_start one ≡ true → other ≡ start
unfolding Kept
kept-start start other k h = k
kept-start nowhere other k h = absurd (cc)
kept-start place other k h = absurd (cc)
kept-start element_address other k h = absurd (cc)

-- only the decay of an array is the address of its first element
never-start : (test : Bool) (one other : Reach) → (one ≡ start → ⊥) → (other ≡ start → ⊥) → (if test then one else other) ≡ start → ⊥
never-start true one other f g h = f h
never-start false one other f g h = g h

place-apart : place ≡ start → ⊥
place-apart h = absurd (cc)

nowhere-apart : nowhere ≡ start → ⊥
nowhere-apart h = absurd (cc)

element-apart : element_address ≡ start → ⊥
element-apart h = absurd (cc)

object-start : (found : Option Declaration) → reach_of_object found ≡ start → ⊥
object-start None h = absurd (cc)
object-start (Some entry) h = never-start (is_fixed entry.sort) place nowhere place-apart nowhere-apart h

start-only : (scene : Scene) (form : Label) (spans : Spans) (parts : List Tree) (inner : List Reach) → reach_at scene form spans parts inner ≡ start → form ≡ label.decay
start-only scene label.decay spans parts inner h = refl
start-only scene (label.object at) spans parts inner h = absurd (object-start (slice_get scene.declared at) h)
start-only scene (label.member n) spans parts (place ∷ rest) h = absurd (cc)
start-only scene (label.binary o.Add) spans (left ∷ right ∷ []) (start ∷ rest) h =
    absurd (never-start (is_some (constant_in scene right)) element_address nowhere element-apart nowhere-apart h)
start-only scene (label.binary o.Add) spans (left ∷ right ∷ []) (first ∷ start ∷ rest) h =
    absurd (never-start (is_some (constant_in scene left)) element_address nowhere element-apart nowhere-apart h)
start-only scene label.follow spans (sum ∷ []) (element_address ∷ rest) h = absurd (never-start (shares_tokens spans sum) place nowhere place-apart nowhere-apart h)
start-only scene form spans parts inner h = absurd (cc)

decay-kind : (from kind : CType) → FitsDecay from kind → integer_kind kind ≡ None
decay-kind (array type n) kind h = subst (λ it. integer_kind it ≡ None) (sym h) refl
decay-kind from kind h = absurd h

decayed-kind : (scene : Scene) (kind : CType) (parts : List Tree) → FitsExpression scene label.decay kind parts → integer_kind kind ≡ None
decayed-kind scene kind (a ∷ []) h = decay-kind (kind_of a) kind h.1
decayed-kind scene kind parts h = absurd h

-- no sum has two pointers (6.5.6p2)
never-pointers : (scene : Scene) (left right kind : CType) (from to : Option CType) → FitsBinary scene o.Add left right kind None None from to → ⊥
never-pointers scene left right kind (Some a) (Some b) h = absurd (cc)
never-pointers scene left right kind from to h = absurd h

first-of : List Reach → Reach
first-of [] = nowhere
first-of (one ∷ others) = one

rest-of : List Reach → List Reach
rest-of [] = []
rest-of (one ∷ others) = others

module _ (known : Known) (final : Scene) (complete : AreComplete known.types) (later : IsLater known final) where
  zero-final : (tree : Tree) → is_zero known tree ≡ true → IsZero final tree
  zero-final tree h = constant-stays known final later complete tree (pos 0) (zero-value (constant_of known tree) h)

  null-final : (tree : Tree) → is_null known tree ≡ true → IsNullConstant final tree
  null-final (node label.convert (pointer void) spans (more_trees operand lengths)) h = zero-final operand h
  null-final tree h = zero-final tree h

  null-value : (tree : Tree) → is_null known tree ≡ true → IsNullValue final tree
  null-value (node label.convert (pointer void) spans (more_trees operand no_trees)) h = inr (null-by final spans operand (shares_tokens spans operand) (zero-final operand h))
  null-value (node label.convert (pointer void) spans (more_trees operand lengths)) h = inr (zero-final operand h)
  null-value tree h = inl (is-some (constant_in final tree) (pos 0) (zero-final tree h))

  kept-object : (at : ℕ) → Kept (reach_of_object (slice_get known.declared at)) (reach_of_object (slice_get final.declared at))
  unfolding Kept
  kept-object at = go (slice_get known.declared at) refl
    where
      go : (found : Option Declaration) → slice_get known.declared at ≡ found → Kept (reach_of_object found) (reach_of_object (slice_get final.declared at))
      go None e = tt
      go (Some entry) e =
          let one = later.declared at entry e in
          subst (λ found. Kept (reach_of_object (Some entry)) (reach_of_object found)) (sym one.1)
          (kept-if (is_fixed entry.sort) (is_fixed one.0.sort) place (λ h. ap is_fixed one.2.sort ∙ h))

  kept-subscript : (tree : Tree) → Kept (subscripted (scene_of known) tree) (subscripted final tree)
  kept-subscript tree =
      kept-if (is_some (constant_of known tree)) (is_some (constant_in final tree)) element_address
      (λ h. some-stays (constant_of known tree) (constant_in final tree) (constant-stays known final later complete tree) h)

  Apart : Label → List Reach → List Reach → Type 0
  Apart form inner behind = form ≡ label.binary o.Add → first-of behind ≡ start → first-of (rest-of inner) ≡ start → ⊥

  kept-second : (spans : Spans) (left right : Tree) (first : Reach) (inner behind : List Reach) → AllKept (first ∷ start ∷ inner) behind → (first-of behind ≡ start → ⊥)
      → Kept (subscripted (scene_of known) left) (reach_at final (label.binary o.Add) spans (left ∷ right ∷ []) behind)
  unfolding Kept AllKept first-of
  kept-second spans left right first inner (start ∷ more) k apart = absurd (apart refl)
  kept-second spans left right first inner (nowhere ∷ two ∷ more) k apart =
      subst (λ it. Kept (subscripted (scene_of known) left) (reach_at final (label.binary o.Add) spans (left ∷ right ∷ []) (nowhere ∷ it ∷ more))) (sym k.1.0) (kept-subscript left)
  kept-second spans left right first inner (place ∷ two ∷ more) k apart =
      subst (λ it. Kept (subscripted (scene_of known) left) (reach_at final (label.binary o.Add) spans (left ∷ right ∷ []) (place ∷ it ∷ more))) (sym k.1.0) (kept-subscript left)
  kept-second spans left right first inner (element_address ∷ two ∷ more) k apart =
      subst (λ it. Kept (subscripted (scene_of known) left) (reach_at final (label.binary o.Add) spans (left ∷ right ∷ []) (element_address ∷ it ∷ more))) (sym k.1.0) (kept-subscript left)
  kept-second spans left right first inner [] k apart = absurd k
  kept-second spans left right first inner (one ∷ []) k apart = absurd k.1

  kept-at : (form : Label) (spans : Spans) (parts : List Tree) (inner behind : List Reach) → AllKept inner behind → Apart form inner behind
      → Kept (reach_at (scene_of known) form spans parts inner) (reach_at final form spans parts behind)
  unfolding Kept AllKept Apart first-of rest-of
  kept-at (label.object at) spans parts inner behind k apart = kept-object at
  kept-at (label.literal bytes unit) spans parts inner behind k apart = refl
  kept-at (label.member n) spans parts (place ∷ rest) (one ∷ more) k apart = subst (λ it. reach_at final (label.member n) spans parts (it ∷ more) ≡ place) (sym k.0) refl
  kept-at label.decay spans parts (place ∷ rest) (one ∷ more) k apart = subst (λ it. reach_at final label.decay spans parts (it ∷ more) ≡ start) (sym k.0) refl
  kept-at (label.binary o.Add) spans (left ∷ right ∷ []) (start ∷ rest) (one ∷ more) k apart =
      subst (λ it. Kept (subscripted (scene_of known) right) (reach_at final (label.binary o.Add) spans (left ∷ right ∷ []) (it ∷ more))) (sym k.0) (kept-subscript right)
  kept-at (label.binary o.Add) spans (left ∷ right ∷ []) (nowhere ∷ start ∷ rest) behind k apart = kept-second spans left right nowhere rest behind k (λ h. apart refl h refl)
  kept-at (label.binary o.Add) spans (left ∷ right ∷ []) (place ∷ start ∷ rest) behind k apart = kept-second spans left right place rest behind k (λ h. apart refl h refl)
  kept-at (label.binary o.Add) spans (left ∷ right ∷ []) (element_address ∷ start ∷ rest) behind k apart =
      kept-second spans left right element_address rest behind k (λ h. apart refl h refl)
  kept-at label.follow spans (sum ∷ []) (element_address ∷ rest) (one ∷ more) k apart =
      subst (λ it. Kept (if shares_tokens spans sum then place else nowhere) (reach_at final label.follow spans (sum ∷ []) (it ∷ more))) (sym k.0)
      (kept-if (shares_tokens spans sum) (shares_tokens spans sum) place (λ h. h))
  kept-at form spans parts (one ∷ rest) [] k apart = absurd k
  kept-at form spans parts inner behind k apart = tt

  -- what reaches the first element of an array is no integer
  reached-kind : (scene : Scene) (tree : Tree) → not (is_statement (label_of tree)) ≡ true → IsWellTyped (scene_of known) tree → reach scene tree ≡ start
      → integer_kind (kind_of tree) ≡ None
  reached-kind scene (node form kind spans parts) is h e =
      let decays = start-only scene form spans (listed parts) (reaches scene parts) e in
      let fits = fits-expression (scene_of known) form kind (listed parts) is h.0 in
      decayed-kind (scene_of known) kind (listed parts) (subst (λ it. FitsExpression (scene_of known) it kind (listed parts)) decays fits)

  apart-of : (form : Label) (kind : CType) (parts : Trees) → FitsExpression (scene_of known) form kind (listed parts) → AreExpressions (listed parts)
      → AreWellTyped (scene_of known) parts → Apart form (reaches (scene_of known) parts) (reaches final parts)
  unfolding Apart first-of rest-of
  apart-of (label.binary o.Add) kind (more_trees a (more_trees b no_trees)) fits are well e f g =
      let one = reached-kind final a are.0 well.0 f in
      let two = reached-kind (scene_of known) b are.1.0 well.1.0 g in
      never-pointers (scene_of known) (kind_of a) (kind_of b) kind (target (kind_of a)) (target (kind_of b))
      (subst (λ it. FitsBinary (scene_of known) o.Add (kind_of a) (kind_of b) kind None it (target (kind_of a)) (target (kind_of b))) two
      (subst (λ it. FitsBinary (scene_of known) o.Add (kind_of a) (kind_of b) kind it (integer_kind (kind_of b)) (target (kind_of a)) (target (kind_of b))) one fits.2))
  apart-of (label.binary o.Add) kind parts fits are well e f g = absurd fits
  apart-of form kind parts fits are well e f g = absurd (cc)

  mutual
    unfolding AllKept

    reach-kept : (tree : Tree) → not (is_statement (label_of tree)) ≡ true → IsWellTyped (scene_of known) tree → Kept (reach (scene_of known) tree) (reach final tree)
    reach-kept (node form kind spans parts) is h =
        let fits = fits-expression (scene_of known) form kind (listed parts) is h.0 in
        let are = expressions-in (scene_of known) form kind (listed parts) fits in
        let well = subst (λ scene. AreWellTyped scene parts) (inside-expression known form (listed parts) is) h.1 in
        kept-at form spans (listed parts) (reaches (scene_of known) parts) (reaches final parts) (reaches-kept parts are well) (apart-of form kind parts fits are well)

    reaches-kept : (parts : Trees) → AreExpressions (listed parts) → AreWellTyped (scene_of known) parts → AllKept (reaches (scene_of known) parts) (reaches final parts)
    reaches-kept no_trees are well = tt
    reaches-kept (more_trees first rest) are well = (reach-kept first are.0 well.0, reaches-kept rest are.1 well.1)

  address-final : (tree : Tree) → not (is_statement (label_of tree)) ≡ true → IsWellTyped (scene_of known) tree → is_address_constant known tree ≡ true → IsAddressConstant final tree
  address-final (node label.address kind spans (more_trees operand no_trees)) is h e =
      let fits = fits-expression (scene_of known) label.address kind (operand ∷ []) is h.0 in
      let are = expressions-in (scene_of known) label.address kind (operand ∷ []) fits in
      let well = subst (λ scene. AreWellTyped scene (more_trees operand no_trees)) (inside-expression known label.address (operand ∷ []) is) h.1 in
      kept-place (reach (scene_of known) operand) (reach final operand) (reach-kept operand are.0 well.0) e
  address-final tree is h e = kept-start (reach (scene_of known) tree) (reach final tree) (reach-kept tree is h) e

  address-plain : (tree : Tree) → is_address_constant known tree ≡ true → unconverted tree ≡ tree
  address-plain (node label.convert kind spans parts) e = absurd (cc)
  address-plain tree e = refl

  -- ---- static values

  module _ (value : Tree) (sound : IsSoundValue known value) where
    constant-over : (it : ℤ) → constant_of known value ≡ Some it → (type : CType) → assignable_to known value type ≡ true → is_same (kind_of value) type ≡ false
        → IsStaticValue final (over label.convert type value)
    constant-over it e (integer kind) h differs = inl (converted-some final value it (constant-stays known final later complete value it e) kind)
    constant-over it e (pointer to) h differs =
        let form = formed (is_constant_form value) (constant_value known.types known.declared value) it e in
        let none = no-pointer (bare (kind_of value)) (constant-integer value form) in
        let null : is_null known value ≡ true = subst (λ found. pointer_assignable known value to found ≡ true) none h in
        inr (inl (subst (IsNullConstant final) (sym (unconverted-over (pointer to) value)) (null-final value null)))
    constant-over it e (struct at) h differs = absurd (cc)
    constant-over it e type h differs = absurd (cc)

    by-constant : (type : CType) (it : ℤ) → constant_of known value ≡ Some it → assignable_to known value type ≡ true → (test : Bool) → is_same (kind_of value) type ≡ test
        → IsStaticValue final (if test then value else over label.convert type value)
    by-constant type it e h true same = inl (is-some (constant_in final value) it (constant-stays known final later complete value it e))
    by-constant type it e h false same = constant-over it e type h same

    by-null : (type : CType) → is_null known value ≡ true → (test : Bool) → IsStaticValue final (if test then value else over label.convert type value)
    by-null type h true = ⊎_elim (λ some. inl some) (λ null. inr (inl null)) (null-value value h)
    by-null type h false = inr (inl (subst (IsNullConstant final) (sym (unconverted-over type value)) (null-final value h)))

    by-address : (type : CType) → is_address_constant known value ≡ true → (test : Bool) → IsStaticValue final (if test then value else over label.convert type value)
    by-address type h true = inr (inr (subst (IsAddressConstant final) (sym (address-plain value h)) (address-final value (value-expression value sound.0) sound.3 h)))
    by-address type h false =
        inr (inr (subst (IsAddressConstant final) (sym (unconverted-over type value)) (address-final value (value-expression value sound.0) sound.3 h)))

    pub static-final : (type : CType) → is_static_value known value ≡ true → is_assignable known value type ≡ true → has_value known value ≡ true
        → IsStaticValue final (as_type type value)
    static-final type static assignable valued =
        ⊎_elim
        (λ constant. by-some (constant_of known value) refl (if-holds (is_constant_expression known value) (is_some (constant_of known value)) valued constant))
        (λ rest. ⊎_elim (λ null. by-null (bare type) null (is_same (kind_of value) (bare type))) (λ address. by-address (bare type) address (is_same (kind_of value) (bare type))) rest)
        (three-or (is_constant_expression known value) (is_null known value) (is_address_constant known value) static)
      where
        by-some : (found : Option ℤ) → constant_of known value ≡ found → is_some found ≡ true → IsStaticValue final (as_type type value)
        by-some (Some it) e is = by-constant (bare type) it e assignable (is_same (kind_of value) (bare type)) refl
        by-some None e is = absurd (cc)
