-- The parameters of a function definition: each has an entry of its own, and the type of the function has their types.
use Rattle.std.specs.Prelude.{◌≡◌, ℕ, ◌≤◌, ◌⊎◌, Bool, true, false, ◌&&◌, not, if◌then◌else◌, List, [], ◌∷◌, ◌++◌, length, Option, Some, None, is_some, unwrap_or, slice_get, refl}
use Rattle.std.proofs.Common.{sym, ap, ◌∙◌, subst, arith, append_assoc, inl, inr, ⊎_elim}
use Rattle.dm_type.specs.CTypes.{CType, array, function as function_type, all_of}
use Rattle.dm_type.specs.TableLaws.{injected}
use Rattle.dm_syn.specs.declared.declared.Declared.{Declared as Seen}
use Rattle.dm_syn.specs.Sources.{spelling_at}
use Rattle.dm_syn.specs.Spans.{expr_span}
use Rattle.dm_syn.specs.Scopes.{declarator_name}
use Rattle.dm_syn.specs.Grammar.{IsExpr, IsDeclarator, IsDirect, AreParameters, AreMoreParameters, IsParameter}
use Rattle.dm_syn.specs.Statements.{own_in_pointers, own_parameters, own_in_direct}
use Rattle.dm_syn.specs.Trees.{Expr, Specifiers, Declarator, Direct, Parameters, Parameter}
use Rattle.dm_syn.specs.Trees as tree
use Rattle.dm_tree.specs.declared.unit.Sort.TheVariants.{Object}
use Rattle.dm_tree.specs.Scenes.{is_function}
use Rattle.dm_tree.specs.Units.{Declaration}
use Rattle.dm_typing.specs.Known.{Known, Setting, Outcome, given, broken, after, with_it, obeys, declaring}
use Rattle.dm_typing.specs.Conversions.{is_complete, as_value}
use Rattle.dm_typing.specs.Specifiers.{elsewhere}
use Rattle.dm_typing.specs.Sound.{IsType, AreSoundTokens, AreSteps, IsSound, IsSoundKnown, KnowsMore, GivesMore, scene_of}
use Rattle.dm_typing.specs.Typing.{TypedParameter, Step, pointing, calling, arraying, kinds_of, length_of, length_fits, is_result, typed, pointers, direct_at, adjusted, is_no_parameters, without_void, parameter_entry, is_new_parameter, parameter_declared, typed_parameter, parameter_at, entered, left, stepped, derived, typed_specifiers, steps_of, direct_steps, parameters_of, parameter_of}
use Rattle.dm_typing.proofs.DerivedLemmas.{IsParameterType, AreParameterTypes, declarator-gives, parameter-gives, entered-sound, left-more}
use Rattle.dm_typing.proofs.GrowthLemmas.{complete-stays, known-later}
use Rattle.dm_typing.proofs.KnownLemmas.{Any, knows-itself, knows-through, type-stays, stays-so, after-more, with-more, obeys-more, length-more}
use Rattle.dm_typing.proofs.TypeLemmas.{both-hold}
use Rattle.dm_typing.proofs.WholeLemmas.{expr-more, specifiers-more, declarator-more, direct-more, parameters-more}
use Rattle.dm_typing.proofs.WriteLemmas.{as-value-sound}
use Rattle.dm_edecl.specs.Settled.{is_open}
use Rattle.dm_edecl.specs.Units.{is_only, may_be_defined, defined_parameter, defined_parameters}
use Rattle.dm_edecl.proofs.KeepsLemmas.{lengths-grow}
use Rattle.dm_edecl.proofs.NamingLemmas.{last-get}
use Rattle.dm_edecl.proofs.StatementLemmas.{weaker-more}

-- ---- the entry of a parameter

-- a parameter that is named has an entry of its own, made since there were so many
pub record HasEntry (base : ℕ) (known : Known) (one : TypedParameter) (number : ℕ) : Type 0 where
  pub entry : Declaration
  pub at : slice_get known.declared number ≡ Some entry
  pub low : base ≤ number
  pub sort : entry.sort ≡ Object false
  pub kind : entry.kind ≡ one.kind
  pub shut : is_open one.kind ≡ false

abbrev pub IsEntered : ℕ → Known → TypedParameter → Type 0
IsEntered base known one = (number : ℕ) → one.declared ≡ Some number → HasEntry base known one number

entry-later : (base less : ℕ) (old new : Known) (one : TypedParameter) (number : ℕ) → KnowsMore old new → less ≤ base → HasEntry base old one number → HasEntry less new one number
entry-later base less old new one number more below has = record {
  entry = has.entry;
  at = more.declared number has.entry has.at;
  low = let l = has.low in omega (arith, l, below);
  sort = has.sort;
  kind = has.kind;
  shut = has.shut;
}

adjusted-shut : (type : CType) → is_open (adjusted type) ≡ false
adjusted-shut (array type None) = refl
adjusted-shut (array type (Some n)) = refl
adjusted-shut type = refl

-- what is given is entered
EnteredIn : ℕ → Outcome TypedParameter → Type 0
EnteredIn base (given known one) = IsEntered base known one
EnteredIn base (broken rule at) = Unit {0}

obeys-entered : (base : ℕ) (test : Bool) (rule at : ℕ) (next : Outcome TypedParameter) → EnteredIn base next → EnteredIn base (obeys test rule at next)
unfolding EnteredIn
obeys-entered base true rule at next h = h
obeys-entered base false rule at next h = tt

declared-entered : (setting : Setting) (known : Known) (base : ℕ) (type : CType) (name : Option ℕ) → base ≤ length known.declared
    → EnteredIn base (parameter_declared setting known (adjusted type) name)
unfolding EnteredIn
declared-entered setting known base type None low = λ number e. absurd (cc)
declared-entered setting known base type (Some at) low =
    let entry = parameter_entry setting at (adjusted type) in
    let behind = declaring known (spelling_at setting.source at) entry in
    let one : TypedParameter = record { kind = adjusted type; declared = Some (length known.declared) } in
    λ number e.
    let same : length known.declared ≡ number = injected (length known.declared) number e in
    subst (HasEntry base behind one) same
    (record { entry = entry; at = last-get known.declared entry; low = low; sort = refl; kind = refl; shut = adjusted-shut type })

typed-entered : (setting : Setting) (known : Known) (base here : ℕ) (type : CType) (name : Option ℕ) → base ≤ length known.declared
    → EnteredIn base (typed_parameter setting known here type name)
typed-entered setting known base here type name low =
    obeys-entered base (is_new_parameter setting known name) 2 (unwrap_or name here) (obeys (not (is_function type)) 5 here (parameter_declared setting known (adjusted type) name))
    (obeys-entered base (not (is_function type)) 5 here (parameter_declared setting known (adjusted type) name) (declared-entered setting known base type name low))

-- a parameter, with its entry
abbrev pub IsOwnEntry : ℕ → Known → TypedParameter → Type 0
IsOwnEntry base known one = IsType known one.kind × IsEntered base known one

with-entry : (known : Known) (base : ℕ) (outcome : Outcome TypedParameter) → GivesMore known IsParameterType outcome → EnteredIn base outcome → GivesMore known (IsOwnEntry base) outcome
unfolding EnteredIn
with-entry known base (given behind one) h g = (h.0, h.1, h.2, (h.3, g))
with-entry known base (broken rule at) h g = tt

-- ---- a parameter of a definition

-- it is complete and named
abbrev pub IsDefinedOne : ℕ → Known → TypedParameter → Type 0
IsDefinedOne base known one = IsOwnEntry base known one × (is_complete known one.kind ≡ true) × (is_some one.declared ≡ true)

-- or it is the `void` of an empty list
abbrev pub IsOwnOne : Bool → ℕ → Known → TypedParameter → Type 0
IsOwnOne alone base known one = ((alone ≡ true) × (is_no_parameters (one ∷ []) ≡ true)) ⊎ IsDefinedOne base known one

unfoldable pub AllDefined : ℕ → Known → List TypedParameter → Type 0
AllDefined base known [] = Unit {0}
AllDefined base known (one ∷ others) = IsDefinedOne base known one × AllDefined base known others

abbrev pub IsOwnList : ℕ → Known → List TypedParameter → Type 0
IsOwnList base known typed = (is_no_parameters typed ≡ true) ⊎ AllDefined base known typed

one-later : (base less : ℕ) (old new : Known) (one : TypedParameter) → KnowsMore old new → IsSoundKnown old → less ≤ base → IsDefinedOne base old one → IsDefinedOne less new one
one-later base less old new one more sound below has = (
  (type-stays old new more one.kind has.0.0, λ number e. entry-later base less old new one number more below (has.0.1 number e)),
  complete-stays old (scene_of new) (known-later old new more) sound.complete one.kind has.1,
  has.2,
)

pub all-later : (base less : ℕ) (old new : Known) (typed : List TypedParameter) → KnowsMore old new → IsSoundKnown old → less ≤ base → AllDefined base old typed → AllDefined less new typed
unfolding AllDefined
all-later base less old new [] more sound below has = tt
all-later base less old new (one ∷ others) more sound below has =
    (one-later base less old new one more sound below has.0, all-later base less old new others more sound below has.1)

module _ (setting : Setting) (tokens : AreSoundTokens setting.source.tokens) where
  parameter-entered : (known : Known) (names : List Seen) (parameter : Parameter) → IsParameter setting.source names parameter → IsSoundKnown known
      → GivesMore known (IsOwnEntry (length known.declared)) (parameter_of setting true known parameter)
  unfolding parameter_of IsParameter
  parameter-entered known names (tree.parameter span specifiers declarator) h sound =
      let base = length known.declared in
      after-more known IsType (IsOwnEntry base) (typed_specifiers setting true elsewhere false known specifiers) _ (specifiers-more setting tokens true known _ elsewhere false specifiers h.1 sound)
      (λ behind type more still is. declarator-gives behind type (IsOwnEntry base) (steps_of setting true behind declarator)
      (λ then_known kind. typed_parameter setting then_known (parameter_at span declarator) kind (declarator_name declarator)) is (declarator-more setting tokens true behind _ true declarator h.3 still)
      (λ then_known kind further fine kind-is.
      let one = lengths-grow known.declared behind.declared more.declared in
      let two = lengths-grow behind.declared then_known.declared further.declared in
      with-entry then_known base (typed_parameter setting then_known (parameter_at span declarator) kind (declarator_name declarator))
      (parameter-gives setting then_known (parameter_at span declarator) kind (declarator_name declarator) fine kind-is)
      (typed-entered setting then_known base (parameter_at span declarator) kind (declarator_name declarator) (omega (arith, one, two)))))

  one-defined : (alone : Bool) (known : Known) (names : List Seen) (parameter : Parameter) → IsParameter setting.source names parameter → IsSoundKnown known
      → GivesMore known (IsOwnOne alone (length known.declared)) (defined_parameter setting alone known parameter)
  one-defined alone known names (tree.parameter span specifiers declarator) h sound =
      let base = length known.declared in
      after-more known (IsOwnEntry base) (IsOwnOne alone base) (parameter_of setting true known (tree.parameter span specifiers declarator)) _
      (parameter-entered known names (tree.parameter span specifiers declarator) h sound)
      (λ behind one more still own. by-test behind one base still own (alone && is_no_parameters (one ∷ [])) refl)
    where
      by-test : (behind : Known) (one : TypedParameter) (base : ℕ) → IsSoundKnown behind → IsOwnEntry base behind one → (test : Bool) → (alone && is_no_parameters (one ∷ [])) ≡ test
          → GivesMore behind (IsOwnOne alone base) (if test then given behind one else may_be_defined behind span declarator one (given behind one))
      by-test behind one base still own true e = stays-so behind (IsOwnOne alone base) one still (inl (both-hold alone (is_no_parameters (one ∷ [])) e))
      by-test behind one base still own false e =
          obeys-more behind (IsOwnOne alone base) (is_complete behind one.kind) 5 (parameter_at span declarator) _
          (λ whole. obeys-more behind (IsOwnOne alone base) (is_some one.declared) 35 span.first (given behind one)
          (λ named. stays-so behind (IsOwnOne alone base) one still (inr (own, whole, named))))

  -- one parameter before others
  then-all : (known : Known) (first : Outcome TypedParameter) (others : Known → Outcome (List TypedParameter)) → GivesMore known (IsOwnOne false (length known.declared)) first
      → ((behind : Known) → IsSoundKnown behind → GivesMore behind (AllDefined (length behind.declared)) (others behind))
      → GivesMore known (AllDefined (length known.declared)) (after first (λ then_known made. with_it (others then_known) (λ behind more. made ∷ more)))
  unfolding AllDefined
  then-all known first others h rest =
      let base = length known.declared in
      after-more known (IsOwnOne false base) (AllDefined base) first _ h
      (λ then_known made more still own. with-more then_known (AllDefined (length then_known.declared)) (AllDefined base) (others then_known) (λ behind list. made ∷ list) (rest then_known still)
      (λ behind list further fine all.
      let grown = lengths-grow known.declared then_known.declared more.declared in
      let one : IsDefinedOne base then_known made = ⊎_elim (λ alone. let e = alone.0 in absurd (cc)) (λ fits. fits) own in
      (one-later base base then_known behind made further still (omega arith) one, later-all (length then_known.declared) base behind list grown all)))
    where
      later-all : (base less : ℕ) (known : Known) (typed : List TypedParameter) → less ≤ base → AllDefined base known typed → AllDefined less known typed
      later-all base less known [] below all = tt
      later-all base less known (one ∷ others) below all =
          (((all.0.0.0, λ number e. entry-later base less known known one number (knows-itself known) below (all.0.0.1 number e)), all.0.1, all.0.2), later-all base less known others below all.1)

  all-defined : (known : Known) (names : List Seen) (at : ℕ) (these : Parameters) → AreMoreParameters setting.source names at these → IsSoundKnown known
      → GivesMore known (AllDefined (length known.declared)) (defined_parameters setting false known these)
  unfolding AllDefined AreMoreParameters
  all-defined known names at tree.no_parameters h sound = stays-so known (AllDefined (length known.declared)) [] sound tt
  all-defined known names at (tree.more_parameters first others) h sound =
      then-all known (defined_parameter setting false known first) (λ then_known. defined_parameters setting false then_known others) (one-defined false known _ first h.2 sound)
      (λ then_known still. all-defined then_known _ _ others h.3 still)

  pub own-defined : (known : Known) (names : List Seen) (at : ℕ) (these : Parameters) → AreParameters setting.source names at these → IsSoundKnown known
      → GivesMore known (IsOwnList (length known.declared)) (defined_parameters setting true known these)
  unfolding AllDefined AreParameters
  own-defined known names at tree.no_parameters h sound = stays-so known (IsOwnList (length known.declared)) [] sound (inr tt)
  own-defined known names at (tree.more_parameters first tree.no_parameters) h sound =
      let base = length known.declared in
      after-more known (IsOwnOne true base) (IsOwnList base) (defined_parameter setting true known first) _ (one-defined true known _ first h.1 sound)
      (λ then_known made more still own. stays-so then_known (IsOwnList base) (made ∷ []) still (⊎_elim (λ alone. inl alone.1) (λ fits. inr (fits, tt)) own))
  own-defined known names at (tree.more_parameters first (tree.more_parameters second others)) h sound =
      let base = length known.declared in
      weaker-more known (AllDefined base) (IsOwnList base) (defined_parameters setting true known (tree.more_parameters first (tree.more_parameters second others))) (λ behind all fits. inr fits)
      (then-all known (defined_parameter setting false known first) (λ then_known. defined_parameters setting false then_known (tree.more_parameters second others))
      (one-defined false known _ first h.1 sound) (λ then_known still. all-defined then_known _ _ (tree.more_parameters second others) h.2 still))

-- ---- they are those of the declarator

-- where one is given, so is the other
unfoldable pub SameAs : {A : Type 0} → Outcome A → Outcome A → Type 0
SameAs (given known it) other = other ≡ given known it
SameAs (broken rule at) other = Unit {0}

after-same : {A B : Type 0} (one other : Outcome A) (f g : Known → A → Outcome B) → SameAs one other → ((known : Known) (it : A) → SameAs (f known it) (g known it))
    → SameAs (after one f) (after other g)
unfolding SameAs
after-same (given known it) other f g e step = subst (λ o. SameAs (f known it) (after o g)) (sym e) (step known it)
after-same (broken rule at) other f g e step = tt

with-same : {A B : Type 0} (one other : Outcome A) (f : Known → A → B) → SameAs one other → SameAs (with_it one f) (with_it other f)
unfolding SameAs
with-same (given known it) other f e = ap (λ o. with_it o f) e
with-same (broken rule at) other f e = tt

self-same : {A : Type 0} (one : Outcome A) (f : Known → A → Outcome A) → ((known : Known) (it : A) → SameAs (f known it) (given known it)) → SameAs (after one f) one
unfolding SameAs
self-same (given known it) f step = step known it
self-same (broken rule at) f step = tt

obeys-same : {A : Type 0} (test : Bool) (rule at : ℕ) (known : Known) (it : A) (next : Outcome A) → SameAs next (given known it) → SameAs (obeys test rule at next) (given known it)
unfolding SameAs
obeys-same true rule at known it next h = h
obeys-same false rule at known it next h = tt

itself-same : {A : Type 0} (known : Known) (it : A) → SameAs (given known it) (given known it)
unfolding SameAs
itself-same known it = refl

module _ (setting : Setting) where
  one-same : (alone : Bool) (known : Known) (parameter : Parameter) → SameAs (defined_parameter setting alone known parameter) (parameter_of setting true known parameter)
  one-same alone known (tree.parameter span specifiers declarator) =
      self-same (parameter_of setting true known (tree.parameter span specifiers declarator))
      (λ behind one. if alone && is_no_parameters (one ∷ []) then given behind one else may_be_defined behind span declarator one (given behind one))
      (λ behind one. by-test behind one (alone && is_no_parameters (one ∷ [])))
    where
      by-test : (behind : Known) (one : TypedParameter) (test : Bool)
          → SameAs (if test then given behind one else may_be_defined behind span declarator one (given behind one)) (given behind one)
      by-test behind one true = itself-same behind one
      by-test behind one false =
          obeys-same (is_complete behind one.kind) 5 (parameter_at span declarator) behind one _ (obeys-same (is_some one.declared) 35 span.first behind one (given behind one) (itself-same behind one))

  pub list-same : (alone : Bool) (known : Known) (these : Parameters) → SameAs (defined_parameters setting alone known these) (parameters_of setting true known these)
  unfolding parameters_of
  list-same alone known tree.no_parameters = itself-same known []
  list-same alone known (tree.more_parameters first others) =
      after-same (defined_parameter setting (alone && is_only others) known first) (parameter_of setting true known first)
      (λ then_known made. with_it (defined_parameters setting false then_known others) (λ behind more. made ∷ more))
      (λ then_known made. with_it (parameters_of setting true then_known others) (λ behind rest. made ∷ rest)) (one-same (alone && is_only others) known first)
      (λ then_known made. with-same (defined_parameters setting false then_known others) (parameters_of setting true then_known others) (λ behind more. made ∷ more) (list-same false then_known others))

-- the last step of a declarator calls a function with these parameters, which were typed first
pub record Found (setting : Setting) (known : Known) (these : Parameters) (behind : Known) (steps : List Step) : Type 0 where
  pub inner : Known
  pub typed : List TypedParameter
  pub same : parameters_of setting true (entered known) these ≡ given inner typed
  pub more : KnowsMore inner behind
  pub front : List Step
  pub at : ℕ
  pub steps_are : steps ≡ front ++ calling at (without_void typed) ∷ []

abbrev pub Own : Setting → Option Parameters → Known → Parameters → Known → List Step → Type 0
Own setting nearest known these behind steps =
    ((nearest ≡ Some these) × (steps ≡ []) × (behind ≡ known)) ⊎ Found setting known these behind steps

unfoldable pub OwnIn : Setting → Option Parameters → Known → Parameters → Outcome (List Step) → Type 0
OwnIn setting nearest known these (given behind steps) = Own setting nearest known these behind steps
OwnIn setting nearest known these (broken rule at) = Unit {0}

-- more steps stand before
found-before : (setting : Setting) (known : Known) (these : Parameters) (behind last : Known) (steps before : List Step) → KnowsMore behind last → Found setting known these behind steps
    → Found setting known these last (before ++ steps)
found-before setting known these behind last steps before further found = record {
  inner = found.inner;
  typed = found.typed;
  same = found.same;
  more = knows-through found.inner behind last found.more further;
  front = before ++ found.front;
  at = found.at;
  steps_are = ap (λ rest. before ++ rest) found.steps_are ∙ sym (append_assoc before found.front (calling found.at (without_void found.typed) ∷ []));
}

none-own : (setting : Setting) (known : Known) (these : Parameters) (behind last : Known) (steps before : List Step) → KnowsMore behind last → Own setting None known these behind steps
    → Found setting known these last (before ++ steps)
none-own setting known these behind last steps before further own =
    ⊎_elim (λ here. let e = here.0 in absurd (cc)) (λ found. found-before setting known these behind last steps before further found) own

with-pointers : (setting : Setting) (nearest : Option Parameters) (known : Known) (these : Parameters) (at : ℕ) (consts : List ℕ) (outcome : Outcome (List Step))
    → OwnIn setting (own_in_pointers consts nearest) known these outcome → OwnIn setting nearest known these (with_it outcome (λ behind steps. pointers at consts ++ steps))
unfolding OwnIn
with-pointers setting nearest known these at [] (given behind steps) own =
    ⊎_elim (λ here. inl here) (λ found. inr (found-before setting known these behind behind steps [] (knows-itself behind) found)) own
with-pointers setting nearest known these at (one ∷ others) (given behind steps) own =
    inr (none-own setting known these behind behind steps (pointers at (one ∷ others)) (knows-itself behind) own)
with-pointers setting nearest known these at consts (broken rule place) own = tt

-- what stands behind the steps so far, and takes one step before them
abbrev pub OneBefore : List Step → Known → List Step → Type 0
OneBefore steps known all = (step : Step) × (all ≡ step ∷ steps)

later-own : (setting : Setting) (nearest : Option Parameters) (known : Known) (these : Parameters) (behind : Known) (steps : List Step) (outcome : Outcome (List Step))
    → Found setting known these behind steps → GivesMore behind (OneBefore steps) outcome → OwnIn setting nearest known these outcome
unfolding OwnIn
later-own setting nearest known these behind steps (given last all) found g =
    inr (subst (Found setting known these last) (sym g.3.1) (found-before setting known these behind last steps (g.3.0 ∷ []) g.0 found))
later-own setting nearest known these behind steps (broken rule at) found g = tt

then-none : (setting : Setting) (nearest : Option Parameters) (known : Known) (these : Parameters) (first : Outcome (List Step)) (next : Known → List Step → Outcome (List Step))
    → GivesMore known AreSteps first → OwnIn setting None known these first
    → ((behind : Known) (steps : List Step) → IsSoundKnown behind → GivesMore behind (OneBefore steps) (next behind steps))
    → OwnIn setting nearest known these (after first next)
unfolding OwnIn
then-none setting nearest known these (given behind steps) next h own step =
    later-own setting nearest known these behind steps (next behind steps) (none-own setting known these behind behind steps [] (knows-itself behind) own) (step behind steps h.1)
then-none setting nearest known these (broken rule at) next h own step = tt

then-with : (setting : Setting) (nearest : Option Parameters) (known : Known) (these : Parameters) (first : Outcome (List Step)) (step : Step) → OwnIn setting None known these first
    → OwnIn setting nearest known these (with_it first (λ behind steps. step ∷ steps))
unfolding OwnIn
then-with setting nearest known these (given behind steps) step own = inr (none-own setting known these behind behind steps (step ∷ []) (knows-itself behind) own)
then-with setting nearest known these (broken rule at) step own = tt

-- a list of parameters that stands nearest to the name, or behind other ones
calling-own : (setting : Setting) (nearest : Option Parameters) (known : Known) (these mine : Parameters) (here : ℕ) (first : Outcome (List Step)) → GivesMore known AreSteps first
    → OwnIn setting (Some mine) known these first
    → ((behind : Known) (steps : List Step) → IsSoundKnown behind
    → GivesMore behind (OneBefore steps) (with_it (left behind.scopes (parameters_of setting true (entered behind) mine)) (λ last typed. calling here (without_void typed) ∷ steps)))
    → OwnIn setting nearest known these
    (after first (λ behind steps. with_it (left behind.scopes (parameters_of setting true (entered behind) mine)) (λ last typed. calling here (without_void typed) ∷ steps)))
unfolding OwnIn
calling-own setting nearest known these mine here (given behind steps) h own step =
    ⊎_elim (λ own_here. nearest-own own_here (parameters_of setting true (entered behind) mine) refl)
    (λ found. later-own setting nearest known these behind steps _ found (step behind steps h.1)) own
  where
    nearest-own : (Some mine ≡ Some these) × (steps ≡ []) × (behind ≡ known) → (outcome : Outcome (List TypedParameter)) → parameters_of setting true (entered behind) mine ≡ outcome
        → OwnIn setting nearest known these (with_it (left behind.scopes outcome) (λ last typed. calling here (without_void typed) ∷ steps))
    nearest-own is (given inner typed) e =
        let same : mine ≡ these = injected mine these is.0 in
        inr (record {
          inner = inner;
          typed = typed;
          same = subst (λ (it : Known). parameters_of setting true (entered it) these ≡ given inner typed) is.2
              (subst (λ it. parameters_of setting true (entered behind) it ≡ given inner typed) same e);
          more = record { shapes = omega arith; types = λ id inside. refl; contents = λ at content h. h; structs = omega arith; declared = λ at entry h. h };
          front = [];
          at = here;
          steps_are = ap (λ rest. calling here (without_void typed) ∷ rest) is.1;
        })
    nearest-own is (broken rule at) e = tt
calling-own setting nearest known these mine here (broken rule at) h own step = tt

module _ (setting : Setting) (tokens : AreSoundTokens setting.source.tokens) where
  sized-before : (known : Known) (names : List Seen) (here : ℕ) (value : Expr) (steps : List Step) → IsExpr setting.source names value → IsSoundKnown known
      → GivesMore known (OneBefore steps)
      (after (typed setting true known value) (λ then_more made. with_it (length_of then_more (expr_span value).first (as_value made)) (λ behind n. arraying here (Some n) ∷ steps)))
  sized-before known names here value steps is sound =
      after-more known IsSound (OneBefore steps) (typed setting true known value) _ (expr-more setting tokens true known names (expr_span value) value is sound)
      (λ behind made more still fine. with-more behind Any (OneBefore steps) (length_of behind (expr_span value).first (as_value made)) (λ last n. arraying here (Some n) ∷ steps)
      (length-more behind (expr_span value).first (as_value made) still (as-value-sound behind made fine)) (λ last n further good any. (arraying here (Some n), refl)))

  calling-before : (known : Known) (names : List Seen) (at here : ℕ) (these : Parameters) (steps : List Step) → AreParameters setting.source names at these → IsSoundKnown known
      → GivesMore known (OneBefore steps) (with_it (left known.scopes (parameters_of setting true (entered known) these)) (λ last typed. calling here (without_void typed) ∷ steps))
  calling-before known names at here these steps is sound =
      with-more known Any (OneBefore steps) (left known.scopes (parameters_of setting true (entered known) these)) (λ last typed. calling here (without_void typed) ∷ steps)
      (left-more known Any known.scopes (parameters_of setting true (entered known) these) (λ behind typed any. tt)
      (weaker-more (entered known) AreParameterTypes Any (parameters_of setting true (entered known) these) (λ behind typed fits. tt)
      (parameters-more setting tokens true (entered known) names at these is (entered-sound known sound))))
      (λ last typed further good any. (calling here (without_void typed), refl))

  mutual
    unfolding steps_of direct_steps IsDeclarator IsDirect OwnIn

    pub own-declarator : (known : Known) (names : List Seen) (nearest : Option Parameters) (these : Parameters) (of_parameter : Bool) (declarator : Declarator)
        → IsDeclarator setting.source names of_parameter declarator → IsSoundKnown known → own_parameters nearest declarator ≡ Some these
        → OwnIn setting nearest known these (steps_of setting true known declarator)
    own-declarator known names nearest these of_parameter (tree.shaped span consts direct) h sound e =
        with-pointers setting nearest known these span.first consts (direct_steps setting true known (direct_at span.first consts) direct)
        (own-direct known _ (own_in_pointers consts nearest) these of_parameter _ (direct_at span.first consts) direct h.1 sound e)

    own-direct : (known : Known) (names : List Seen) (nearest : Option Parameters) (these : Parameters) (of_parameter : Bool) (at here : ℕ) (direct : Direct)
        → IsDirect setting.source names of_parameter at direct → IsSoundKnown known → own_in_direct nearest direct ≡ Some these
        → OwnIn setting nearest known these (direct_steps setting true known here direct)
    own-direct known names nearest these of_parameter at here tree.absent h sound e = inl (e, refl, refl)
    own-direct known names nearest these of_parameter at here (tree.declared name) h sound e = inl (e, refl, refl)
    own-direct known names nearest these of_parameter at here (tree.enclosed declarator) h sound e = own-declarator known _ nearest these of_parameter declarator h.3 sound e
    own-direct known names nearest these of_parameter at here (tree.array direct) h sound e =
        then-with setting nearest known these (direct_steps setting true known here direct) (arraying here None) (own-direct known _ None these of_parameter _ here direct h.0 sound e)
    own-direct known names nearest these of_parameter at here (tree.sized direct value) h sound e =
        then-none setting nearest known these (direct_steps setting true known here direct) _ (direct-more setting tokens true known _ of_parameter _ here direct h.0 sound)
        (own-direct known _ None these of_parameter _ here direct h.0 sound e) (λ behind steps still. sized-before behind _ here value steps h.3 still)
    own-direct known names nearest these of_parameter at here (tree.function direct mine) h sound e =
        calling-own setting nearest known these mine here (direct_steps setting true known here direct) (direct-more setting tokens true known _ of_parameter _ here direct h.0 sound)
        (own-direct known _ (Some mine) these of_parameter _ here direct h.0 sound e) (λ behind steps still. calling-before behind _ _ here mine steps h.2 still)

-- ---- the type of the function

-- a step makes a type, and nothing more is known
stepped-plain : (known behind : Known) (type made : CType) (step : Step) → stepped known type step ≡ given behind made → behind ≡ known
stepped-plain known behind type made (pointing at qualified) e = by-test (not (is_function type)) _ e
  where
    by-test : (test : Bool) (it : CType) → obeys test 5 at (given known it) ≡ given behind made → behind ≡ known
    by-test true it h = cc
    by-test false it h = absurd (cc)
stepped-plain known behind type made (arraying at n) e = by-test (is_complete known type && length_fits known type n) _ e
  where
    by-test : (test : Bool) (it : CType) → obeys test 5 at (given known it) ≡ given behind made → behind ≡ known
    by-test true it h = cc
    by-test false it h = absurd (cc)
stepped-plain known behind type made (calling at these) e = by-test (is_result known type) _ e
  where
    by-test : (test : Bool) (it : CType) → obeys test 5 at (given known it) ≡ given behind made → behind ≡ known
    by-test true it h = cc
    by-test false it h = absurd (cc)

abbrev pub IsFunctionOf : Known → List TypedParameter → Known → CType → Type 0
IsFunctionOf known these behind kind = (behind ≡ known) × ((result : CType) × (kind ≡ function_type result (all_of (kinds_of these))) × (is_result known result ≡ true))

unfoldable pub FunctionIn : Known → List TypedParameter → Outcome CType → Type 0
FunctionIn known these (given behind kind) = IsFunctionOf known these behind kind
FunctionIn known these (broken rule at) = Unit {0}

last-call : (known : Known) (type : CType) (at : ℕ) (these : List TypedParameter) → FunctionIn known these (derived known type (calling at these ∷ []))
unfolding FunctionIn
last-call known type at these = go (is_result known type) refl
  where
    go : (test : Bool) → is_result known type ≡ test
        → FunctionIn known these
        (after (obeys test 5 at (given known (function_type type (all_of (kinds_of these))))) (λ behind made. derived behind made []))
    go true e = (refl, (type, refl, e))
    go false e = tt

then-call : (known : Known) (these : List TypedParameter) (first : Outcome CType) (next : Known → CType → Outcome CType)
    → ((behind : Known) (made : CType) → first ≡ given behind made → behind ≡ known) → ((type : CType) → FunctionIn known these (next known type))
    → FunctionIn known these (after first next)
unfolding FunctionIn
then-call known these (given behind made) next same step = subst (λ it. FunctionIn known these (next it made)) (sym (same behind made refl)) (step made)
then-call known these (broken rule at) next same step = tt

pub derived-call : (known : Known) (type : CType) (front : List Step) (at : ℕ) (these : List TypedParameter)
    → FunctionIn known these (derived known type (front ++ calling at these ∷ []))
derived-call known type [] at these = last-call known type at these
derived-call known type (step ∷ front) at these =
    then-call known these (stepped known type step) (λ behind made. derived behind made (front ++ calling at these ∷ []))
    (λ behind made e. stepped-plain known behind type made step e) (λ made. derived-call known made front at these)
