-- The types that specifiers name and declarators derive are proper, and those of the table.
use Rattle.std.specs.Prelude.{◌≡◌, ℕ, ◌==◌, Bool, true, false, ◌&&◌, ◌||◌, not, if◌then◌else◌, List, [], ◌∷◌, ◌++◌, length, Option, Some, None, unwrap_or, refl}
use Rattle.std.proofs.Common.{sym, subst}
use Rattle.dm_type.specs.CTypes.{CType, void, integer, pointer, array, struct, function as function_type, const, all_of, with_const}
use Rattle.dm_type.specs.TableLaws.{injected}
use Rattle.dm_scope.specs.Scopes.{Scopes}
use Rattle.dm_syn.specs.Sources.{spelling_at}
use Rattle.dm_tree.specs.Scenes.{is_function}
use Rattle.dm_typing.specs.Known.{Known, Setting, Outcome, given, broken, after}
use Rattle.dm_typing.specs.Conversions.{is_complete}
use Rattle.dm_typing.specs.Specifiers.{Said, with_word, with_type, sets, Row, type_among, are_words, one_type, type_said, Where, are_allowed, with_said_const}
use Rattle.dm_typing.specs.Typing.{number_if_struct, TypedParameter, Step, pointing, arraying, calling, kinds_of, length_fits, is_result, stepped, derived, pointers, adjusted, is_no_parameters, without_void, parameter_entry, is_new_parameter, parameter_declared, typed_parameter, entered, left, typed_said, name_ended}
use Rattle.dm_typing.specs.Sound.{AreTypes, IsStep, AreSteps, AreProper, IsType, IsSoundKnown, KnowsMore, IsTypedName, GivesMore}
use Rattle.dm_typing.proofs.TypeLemmas.{both-hold}
use Rattle.dm_typing.proofs.MemberLemmas.{with-const-proper}
use Rattle.dm_typing.proofs.GrowthLemmas.{constants-sound-stay}
use Rattle.dm_typing.proofs.KnownLemmas.{knows-through, type-stays, stays-so, from-more, after-more, obeys-more, if-more, knows-entry, sound-entry}

-- ---- types

pub types-stay : (old new : Known) → KnowsMore old new → (types : List CType) → AreTypes old types → AreTypes new types
types-stay old new more [] h = tt
types-stay old new more (type ∷ types) h = (type-stays old new more type h.0, types-stay old new more types h.1)

types-pushed : (known : Known) (types : List CType) (type : CType) → AreTypes known types → IsType known type → AreTypes known (types ++ type ∷ [])
types-pushed known [] type h is = (is, tt)
types-pushed known (first ∷ types) type h is = (h.0, types-pushed known types type h.1 is)

no-struct : (type : CType) (at : ℕ) → number_if_struct (with_const type) ≡ Some at → ⊥
no-struct void at h = cc
no-struct (integer kind) at h = cc
no-struct (pointer type) at h = cc
no-struct (array type n) at h = cc
no-struct (struct number) at h = cc
no-struct (function_type result parameters) at h = cc
no-struct (const type) at h = cc

said-const-type : (known : Known) (qualified : Bool) (type : CType) → IsType known type → IsType known (with_said_const qualified type)
said-const-type known true (function_type result parameters) h = h
said-const-type known true type h = (with-const-proper type h.0, λ at e. absurd (no-struct type at e))
said-const-type known false type h = h

-- ---- specifiers

abbrev pub SaidFits : Known → Said → Type 0
SaidFits known said = AreTypes known said.types

pub said-stays : (old new : Known) → KnowsMore old new → (said : Said) → SaidFits old said → SaidFits new said
said-stays old new more said h = types-stay old new more said.types h

either-types : (test : Bool) (one other : Said) (types : List CType) → one.types ≡ types → other.types ≡ types → (if test then one else other).types ≡ types
either-types true one other types a b = a
either-types false one other types a b = b

word-types : (row : ℕ) (said : Said) → (with_word row said).types ≡ said.types
word-types row said =
    either-types (row == 3) _ _ said.types refl (either-types (row == 12) _ _ said.types refl
    (either-types (row == 9 || row == 19 || row == 22) _ _ said.types refl refl))

pub word-fits : (known : Known) (row : ℕ) (said : Said) → SaidFits known said → SaidFits known (with_word row said)
word-fits known row said h = subst (AreTypes known) (sym (word-types row said)) h

pub type-fits : (known : Known) (type : CType) (said : Said) → SaidFits known said → IsType known type → SaidFits known (with_type type said)
type-fits known type said h is = types-pushed known said.types type h is

-- words name void and integer types alone
is_plain : CType → Bool
is_plain void = true
is_plain (integer kind) = true
is_plain type = false

are_plain : List Row → Bool
are_plain [] = true
are_plain (first ∷ others) = is_plain first.type && are_plain others

plain-type : (known : Known) (type : CType) → is_plain type ≡ true → IsType known type
unfolding is_plain
plain-type known void h = (tt, λ at e. absurd (cc))
plain-type known (integer kind) h = (tt, λ at e. absurd (cc))
plain-type known type h = absurd (cc)

among-type : (known : Known) (words : List ℕ) (rows : List Row) → are_plain rows ≡ true → (type : CType) → type_among words rows ≡ Some type → IsType known type
unfolding are_plain
among-type known words [] plain type h = absurd (cc)
among-type known words (first ∷ others) plain type h =
    let parts = both-hold (is_plain first.type) (are_plain others) plain in
    go (λ h. among-type known words others parts.1 type h) parts.0 (are_words words first.words) h
  where
    go : (type_among words others ≡ Some type → IsType known type) → is_plain first.type ≡ true → (test : Bool)
        → (if test then Some first.type else type_among words others) ≡ Some type → IsType known type
    go rest plain true h = subst (IsType known) (injected first.type type h) (plain-type known first.type plain)
    go rest plain false h = rest h

all-plain : are_plain sets ≡ true
unfolding is_plain are_plain
all-plain = refl

one-type : (known : Known) (words : List ℕ) (types : List CType) → AreTypes known types → (type : CType) → one_type words types ≡ Some type → IsType known type
one-type known words [] fits type h = among-type known words sets all-plain type h
one-type known [] (first ∷ []) fits type h = subst (IsType known) (injected first type h) fits.0
one-type known words types fits type h = absurd (cc)

pub said-more : (known : Known) (stands : Where) (here : ℕ) (said : Said) → IsSoundKnown known → SaidFits known said → GivesMore known IsType (typed_said known stands here said)
said-more known stands here said sound fits =
    if-more known IsType (type_said said) 3 here _ (λ type e. obeys-more known IsType (are_allowed stands said) 3 here _
    (λ allowed. stays-so known IsType (with_said_const said.const type) sound (said-const-type known said.const type (one-type known said.words said.types fits type e))))

-- ---- declarators

step-stays : (old new : Known) → KnowsMore old new → (step : Step) → IsStep old step → IsStep new step
step-stays old new more (pointing at qualified) h = tt
step-stays old new more (arraying at n) h = tt
step-stays old new more (calling at parameters) h = types-stay old new more (kinds_of parameters) h

pub steps-stay : (old new : Known) → KnowsMore old new → (steps : List Step) → AreSteps old steps → AreSteps new steps
steps-stay old new more [] h = tt
steps-stay old new more (step ∷ steps) h = (step-stays old new more step h.0, steps-stay old new more steps h.1)

pub pointers-fit : (known : Known) (at : ℕ) (consts : List ℕ) (steps : List Step) → AreSteps known steps → AreSteps known (pointers at consts ++ steps)
pointers-fit known at [] steps h = h
pointers-fit known at (many ∷ others) steps h = (tt, pointers-fit known at others steps h)

all-proper : (known : Known) (types : List CType) → AreTypes known types → AreProper (all_of types)
all-proper known [] h = tt
all-proper known (type ∷ types) h = (h.0.0, all-proper known types h.1)

stepped-more : (known : Known) (type : CType) (step : Step) → IsSoundKnown known → IsType known type → IsStep known step → GivesMore known IsType (stepped known type step)
stepped-more known type (pointing at qualified) sound is fits =
    obeys-more known IsType (not (is_function type)) 5 at _
    (λ object. stays-so known IsType (with_said_const qualified (pointer type)) sound (said-const-type known qualified (pointer type) (is.0, λ number e. absurd (cc))))
stepped-more known type (arraying at n) sound is fits =
    obeys-more known IsType (is_complete known type && length_fits known type n) 5 at (given known (array type n))
    (λ complete. stays-so known IsType (array type n) sound (is.0, λ number e. absurd (cc)))
stepped-more known type (calling at parameters) sound is fits =
    obeys-more known IsType (is_result known type) 5 at _
    (λ result. stays-so known IsType (function_type type (all_of (kinds_of parameters))) sound ((is.0, all-proper known (kinds_of parameters) fits), λ number e. absurd (cc)))

pub derived-more : (known : Known) (type : CType) (steps : List Step) → IsSoundKnown known → IsType known type → AreSteps known steps
    → GivesMore known IsType (derived known type steps)
derived-more known type [] sound is fits = stays-so known IsType type sound is
derived-more known type (step ∷ steps) sound is fits =
    after-more known IsType IsType (stepped known type step) (λ behind made. derived behind made steps) (stepped-more known type step sound is fits.0)
    (λ behind made more sound made-is. derived-more behind made steps sound made-is (steps-stay known behind more steps fits.1))

-- the type that specifiers and a declarator give, and what follows it
pub declarator-gives : {A : Type 0} (known : Known) (base : CType) (P : Known → A → Type 0) (steps : Outcome (List Step)) (next : Known → CType → Outcome A)
    → IsType known base → GivesMore known AreSteps steps
    → ((behind : Known) (type : CType) → KnowsMore known behind → IsSoundKnown behind → IsType behind type → GivesMore behind P (next behind type))
    → GivesMore known P (after steps (λ then_known made. after (derived then_known base made) next))
declarator-gives known base P (given then_known made) next is h step =
    from-more known then_known P (after (derived then_known base made) next) h.0 h.2
    (after-more then_known IsType P (derived then_known base made) next (derived-more then_known base made h.1 (type-stays known then_known h.0 base is) h.3)
    (λ behind type more sound type-is. step behind type (knows-through known then_known behind h.0 more) sound type-is))
declarator-gives known base P (broken rule at) next is h step = tt

-- and alone
pub type-gives : (known : Known) (base : CType) (steps : Outcome (List Step)) → IsType known base → GivesMore known AreSteps steps
    → GivesMore known IsType (after steps (λ behind made. derived behind base made))
type-gives known base (given then_known made) is h =
    from-more known then_known IsType (derived then_known base made) h.0 h.2 (derived-more then_known base made h.1 (type-stays known then_known h.0 base is) h.3)
type-gives known base (broken rule at) is h = tt

-- ---- parameters

abbrev pub IsParameterType : Known → TypedParameter → Type 0
IsParameterType known one = IsType known one.kind

abbrev pub AreParameterTypes : Known → List TypedParameter → Type 0
AreParameterTypes known all = AreTypes known (kinds_of all)

adjusted-type : (known : Known) (type : CType) → IsType known type → IsType known (adjusted type)
adjusted-type known (array type n) h = (h.0, λ at e. absurd (cc))
adjusted-type known type h = h

adjusted-object : (type : CType) → not (is_function type) ≡ true → not (is_function (adjusted type)) ≡ true
adjusted-object (array type n) h = refl
adjusted-object type h = h

pub parameter-gives : (setting : Setting) (known : Known) (here : ℕ) (type : CType) (name : Option ℕ) → IsSoundKnown known → IsType known type
    → GivesMore known IsParameterType (typed_parameter setting known here type name)
parameter-gives setting known here type name sound is =
    obeys-more known IsParameterType (is_new_parameter setting known name) 2 (unwrap_or name here) _ (λ new.
    obeys-more known IsParameterType (not (is_function type)) 5 here (parameter_declared setting known (adjusted type) name) (λ object. go object name))
  where
    go : not (is_function type) ≡ true → (name : Option ℕ) → GivesMore known IsParameterType (parameter_declared setting known (adjusted type) name)
    go object None = stays-so known IsParameterType (record { kind = adjusted type; declared = None }) sound (adjusted-type known type is)
    go object (Some at) =
        let name = spelling_at setting.source at in
        let entry = parameter_entry setting at (adjusted type) in
        let fits = adjusted-type known type is in
        (knows-entry known sound name entry, sound-entry known sound name entry (adjusted-object type object, (λ linked. absurd (cc))) fits, refl, fits)

pub without-void-fits : (known : Known) (all : List TypedParameter) → AreParameterTypes known all → AreParameterTypes known (without_void all)
without-void-fits known all h = go (is_no_parameters all)
  where
    go : (test : Bool) → AreParameterTypes known (if test then [] else all)
    go true = tt
    go false = h

-- a scope within is no more knowledge
sound-entered : (known : Known) (scopes : Scopes) → IsSoundKnown known → IsSoundKnown (record known { scopes = scopes })
sound-entered known scopes sound = record { entries = sound.entries; complete = sound.complete; layered = sound.layered; sizes = sound.sizes; begun = sound.begun; constants = sound.constants }

pub entered-sound : (known : Known) → IsSoundKnown known → IsSoundKnown (entered known)
entered-sound known sound = sound-entered known (entered known).scopes sound

pub left-more : {A : Type 0} (known : Known) (P : Known → A → Type 0) (scopes : Scopes) (outcome : Outcome A)
    → ((behind : Known) (it : A) → P behind it → P (record behind { scopes = scopes }) it) → GivesMore (entered known) P outcome → GivesMore known P (left scopes outcome)
left-more known P scopes (given behind it) keeps h = (
  record { shapes = h.0.shapes; types = h.0.types; contents = h.0.contents; structs = h.0.structs; declared = h.0.declared },
  sound-entered behind scopes h.1,
  h.2,
  keeps behind it h.3,
)
left-more known P scopes (broken rule at) keeps h = tt

-- ---- type names

pub name-gives : (known : Known) (outcome : Outcome CType) → IsSoundKnown known → GivesMore (record known { constants = [] }) IsType outcome
    → GivesMore known IsTypedName (name_ended known.constants outcome)
name-gives known (given behind kind) sound h =
    let more : KnowsMore known behind = record { shapes = h.0.shapes; types = h.0.types; contents = h.0.contents; structs = h.0.structs; declared = h.0.declared } in
    let all = constants-sound-stay known behind more sound.complete known.constants sound.constants in (
      record { shapes = more.shapes; types = more.types; contents = more.contents; structs = more.structs; declared = more.declared },
      record { entries = h.1.entries; complete = h.1.complete; layered = h.1.layered; sizes = h.1.sizes; begun = h.1.begun; constants = all },
      h.2,
      (h.3.0, h.1.constants),
    )
name-gives known (broken rule at) sound h = tt
