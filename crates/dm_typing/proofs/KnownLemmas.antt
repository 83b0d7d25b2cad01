-- What is known grows, and stays sound: one part after the other, declarations, and constants.
use Rattle.std.specs.Prelude.{◌≡◌, ℕ, zero, suc, ◌⊎◌, ℤ, ◌≤ℤ◌, Bool, true, false, not, if◌then◌else◌, List, [], ◌∷◌, ◌++◌, Option, Some, None, is_some, option_and_then, slice_get, int_le, refl}
use Rattle.std.proofs.Common.{sym, ap, ◌∙◌, subst, arith, inl, inr, ⊎_elim}
use Rattle.std.proofs.lemmas.List.Elements.{All-push}
use Rattle.dm_int.specs.declared.Kind.TheVariants as k
use Rattle.dm_int.specs.Kinds.{least, greatest, InRange}
use Rattle.dm_type.specs.CTypes.{CType}
use Rattle.dm_type.specs.TableLaws.{injected}
use Rattle.dm_scope.specs.Scopes.{number_of, is_declared}
use Rattle.dm_syn.specs.Sources.{spelling_at}
use Rattle.dm_tree.specs.Scenes.{IsConstant}
use Rattle.dm_tree.specs.Trees.{Tree, trees}
use Rattle.dm_tree.specs.Typing.{IsEntry, IsWellTyped, AreWellTyped}
use Rattle.dm_tree.specs.Units.{Declaration}
use Rattle.dm_typing.specs.Known.{Known, Setting, Outcome, given, broken, after, with_it, obeys, if_given, meaning_of, declaring}
use Rattle.dm_typing.specs.Conversions.{constant_of}
use Rattle.dm_typing.specs.Typing.{is_int, enumerator_entry, enumerator_declared, enumerator_valued, with_constant, natural, length_of}
use Rattle.dm_typing.specs.Sound.{IsType, IsSoundKnown, KnowsMore, scene_of, IsSoundValue, Gives, GivesMore}
use Rattle.dm_typing.proofs.TypeLemmas.{both-hold}
use Rattle.dm_typing.proofs.GrowthLemmas.{constants-sound-stay}

-- ---- knowledge

pub knows-itself : (known : Known) → KnowsMore known known
knows-itself known = record {
  shapes = omega arith;
  types = λ id inside. refl;
  contents = λ at content h. h;
  structs = omega arith;
  declared = λ at entry h. h;
}

pub knows-through : (a b c : Known) → KnowsMore a b → KnowsMore b c → KnowsMore a c
knows-through a b c first second = record {
  shapes = let one = first.shapes in let other = second.shapes in omega (arith, one, other);
  types = λ id inside. second.types id (let one = first.shapes in omega (arith, one, inside)) ∙ first.types id inside;
  contents = λ at content h. second.contents at content (first.contents at content h);
  structs = let one = first.structs in let other = second.structs in omega (arith, one, other);
  declared = λ at entry h. second.declared at entry (first.declared at entry h);
}

pub type-stays : (old new : Known) → KnowsMore old new → (type : CType) → IsType old type → IsType new type
type-stays old new more type h = (h.0, λ at e. let below = h.1 at e in let longer = more.structs in omega (arith, below, longer))

-- ---- one part after the other

-- what is given in what is known anyway
pub stays-so : {A : Type 0} (known : Known) (P : Known → A → Type 0) (it : A) → IsSoundKnown known → P known it → GivesMore known P (given known it)
stays-so known P it sound h = (knows-itself known, sound, refl, h)

pub gives-more : (known : Known) (P : Known → Tree → Type 0) (outcome : Outcome Tree) → IsSoundKnown known → Gives known P outcome → GivesMore known P outcome
gives-more known P (given behind it) sound h =
    subst (λ (then_known : Known). KnowsMore known then_known × IsSoundKnown then_known × (then_known.begun ≡ known.begun) × P then_known it) (sym h.0)
    (knows-itself known, sound, refl, h.1)
gives-more known P (broken rule at) sound h = tt

pub from-more : {A : Type 0} (known behind : Known) (P : Known → A → Type 0) (outcome : Outcome A) → KnowsMore known behind → behind.begun ≡ known.begun
    → GivesMore behind P outcome → GivesMore known P outcome
from-more known behind P (given last it) more same h = (knows-through known behind last more h.0, h.1, h.2 ∙ same, h.3)
from-more known behind P (broken rule at) more same h = tt

pub after-more : {A B : Type 0} (known : Known) (P : Known → A → Type 0) (Q : Known → B → Type 0) (outcome : Outcome A) (next : Known → A → Outcome B)
    → GivesMore known P outcome → ((behind : Known) (it : A) → KnowsMore known behind → IsSoundKnown behind → P behind it → GivesMore behind Q (next behind it))
    → GivesMore known Q (after outcome next)
after-more known P Q (given behind it) next h step = from-more known behind Q (next behind it) h.0 h.2 (step behind it h.0 h.1 h.3)
after-more known P Q (broken rule at) next h step = tt

pub with-more : {A B : Type 0} (known : Known) (P : Known → A → Type 0) (Q : Known → B → Type 0) (outcome : Outcome A) (made : Known → A → B)
    → GivesMore known P outcome → ((behind : Known) (it : A) → KnowsMore known behind → IsSoundKnown behind → P behind it → Q behind (made behind it))
    → GivesMore known Q (with_it outcome made)
with-more known P Q (given behind it) made h step = (h.0, h.1, h.2, step behind it h.0 h.1 h.3)
with-more known P Q (broken rule at) made h step = tt

pub obeys-more : {A : Type 0} (known : Known) (P : Known → A → Type 0) (test : Bool) (rule at : ℕ) (next : Outcome A)
    → (test ≡ true → GivesMore known P next) → GivesMore known P (obeys test rule at next)
obeys-more known P true rule at next h = h refl
obeys-more known P false rule at next h = tt

pub if-more : {A B : Type 0} (known : Known) (P : Known → B → Type 0) (found : Option A) (rule at : ℕ) (next : A → Outcome B)
    → ((it : A) → found ≡ Some it → GivesMore known P (next it)) → GivesMore known P (if_given found rule at next)
if-more known P (Some it) rule at next h = h it refl
if-more known P None rule at next h = tt

-- ---- declarations

pub get-pushed : {A : Type 0} (xs : List A) (y : A) (at : ℕ) (x : A) → slice_get xs at ≡ Some x → slice_get (xs ++ y ∷ []) at ≡ Some x
get-pushed [] y at x h = absurd (cc)
get-pushed (first ∷ xs) y zero x h = h
get-pushed (first ∷ xs) y (suc at) x h = get-pushed xs y at x h

pub pushed-get : {A : Type 0} (xs : List A) (y : A) (at : ℕ) (x : A) → slice_get (xs ++ y ∷ []) at ≡ Some x → (slice_get xs at ≡ Some x) ⊎ (y ≡ x)
pushed-get [] y zero x h = inr (injected y x h)
pushed-get [] y (suc at) x h = absurd (cc)
pushed-get (first ∷ xs) y zero x h = inl h
pushed-get (first ∷ xs) y (suc at) x h = pushed-get xs y at x h

-- one declaration more
module _ (known : Known) (sound : IsSoundKnown known) (name : List ℕ) (entry : Declaration) where
  pub knows-entry : KnowsMore known (declaring known name entry)
  knows-entry = record {
    shapes = omega arith;
    types = λ id inside. refl;
    contents = λ at content h. h;
    structs = omega arith;
    declared = λ at one h. get-pushed known.declared entry at one h;
  }

  pub sound-entry : IsEntry entry → IsType known entry.kind → IsSoundKnown (declaring known name entry)
  sound-entry is type = record {
    entries = λ at one h.
        ⊎_elim (λ old. sound.entries at one old) (λ new. subst (λ (it : Declaration). IsEntry it × IsType known it.kind) new (is, type)) (pushed-get known.declared entry at one h);
    complete = sound.complete;
    layered = sound.layered;
    sizes = sound.sizes;
    begun = sound.begun;
    constants = constants-sound-stay known (declaring known name entry) knows-entry sound.complete known.constants sound.constants;
  }

-- the entry that a name means is sound
pub IsFound : Known → Option Declaration → Type 0
IsFound known found = (entry : Declaration) → found ≡ Some entry → IsEntry entry × IsType known entry.kind

meant : (known : Known) → IsSoundKnown known → (number : Option ℕ) (entry : Declaration) → option_and_then (slice_get known.declared) number ≡ Some entry
    → IsEntry entry × IsType known entry.kind
meant known sound (Some at) entry h = sound.entries at entry h
meant known sound None entry h = absurd (cc)

pub meaning-found : (known : Known) → IsSoundKnown known → (name : List ℕ) → IsFound known (meaning_of known name)
unfolding IsFound
meaning-found known sound name entry h = meant known sound (number_of known.scopes name) entry h

pub found-entry : (known : Known) (found : Option Declaration) → IsFound known found → (entry : Declaration) → found ≡ Some entry → IsEntry entry × IsType known entry.kind
unfolding IsFound
found-entry known found is entry h = is entry h

pub none-found : (known : Known) → IsFound known None
unfolding IsFound
none-found known entry h = absurd (cc)

pub found-if : (known : Known) (test : Bool) (found : Option Declaration) → IsFound known found → IsFound known (if test then found else None)
unfolding IsFound
found-if known true found is entry h = is entry h
found-if known false found is entry h = absurd (cc)

-- ---- constants

constants-pushed : (known : Known) (all : List Tree) (tree : Tree) → AreWellTyped (scene_of known) (trees all) → IsWellTyped (scene_of known) tree
    → AreWellTyped (scene_of known) (trees (all ++ tree ∷ []))
constants-pushed known [] tree h one = (one, tt)
constants-pushed known (first ∷ rest) tree h one = (h.0, constants-pushed known rest tree h.1 one)

module _ (known : Known) (sound : IsSoundKnown known) (tree : Tree) where
  pub knows-constant : KnowsMore known (with_constant known tree)
  knows-constant = record {
    shapes = omega arith;
    types = λ id inside. refl;
    contents = λ at content h. h;
    structs = omega arith;
    declared = λ at entry h. h;
  }

  pub sound-constant : IsSoundValue known tree → is_some (constant_of known tree) ≡ true → IsSoundKnown (with_constant known tree)
  sound-constant value is = record {
    entries = sound.entries;
    complete = sound.complete;
    layered = sound.layered;
    sizes = sound.sizes;
    begun = sound.begun;
    constants = (
      All-push (IsConstant (scene_of known)) known.constants tree sound.constants.0 (value.0, is),
      constants-pushed known known.constants tree sound.constants.1 value.3,
    );
  }

-- nothing is said of what is given
abbrev pub Any : {A : Type 0} → Known → A → Type 0
Any known it = Unit {0}

some-before : {A B : Type 0} (f : A → Option B) (found : Option A) (it : B) → option_and_then f found ≡ Some it → is_some found ≡ true
some-before f (Some one) it h = refl
some-before f None it h = absurd (cc)

pub length-more : (known : Known) (here : ℕ) (tree : Tree) → IsSoundKnown known → IsSoundValue known tree → GivesMore known Any (length_of known here tree)
length-more known here tree sound value =
    if-more known Any (option_and_then natural (constant_of known tree)) 5 here (λ n. given (with_constant known tree) n)
    (λ n e. (knows-constant known sound tree, sound-constant known sound tree value (some-before natural (constant_of known tree) n e), refl, tt))

-- ---- enumerators

below : (a b : ℤ) → int_le a b ≡ true → a ≤ℤ b
below a b h = grind arith

in-range : (value : ℤ) → is_int value ≡ true → InRange k.Int value
in-range value h =
    let parts = both-hold (int_le (least k.Int) value) (int_le value (greatest k.Int)) h in (below (least k.Int) value parts.0, below value (greatest k.Int) parts.1)

module _ (setting : Setting) where
  pub declared-more : (known : Known) (at : ℕ) (value : ℤ) → IsSoundKnown known → GivesMore known Any (enumerator_declared setting known at value)
  declared-more known at value sound =
      let name = spelling_at setting.source at in
      let entry = enumerator_entry setting at value in
      let behind = declaring known name entry in
      let fine : is_int value ≡ true → GivesMore known Any (given behind value) =
      λ fits. (knows-entry known sound name entry, sound-entry known sound name entry (refl, in-range value fits, refl) (tt, λ number e. absurd (cc)), refl, tt) in
      obeys-more known Any (not (is_declared known.scopes name)) 2 at _ (λ new. obeys-more known Any (is_int value) 7 at _ (λ fits.
      obeys-more known Any _ 36 at (given behind value) (λ plain. fine fits)))

  pub valued-more : (known : Known) (at here : ℕ) (tree : Tree) → IsSoundKnown known → IsSoundValue known tree → GivesMore known Any (enumerator_valued setting known at here tree)
  valued-more known at here tree sound value =
      if-more known Any (constant_of known tree) 7 here _ (λ it e. obeys-more known Any (is_int it) 7 here _ (λ fits.
      from-more known (with_constant known tree) Any (enumerator_declared setting (with_constant known tree) at it) (knows-constant known sound tree) refl
      (declared-more (with_constant known tree) at it (sound-constant known sound tree value (ap is_some e)))))
