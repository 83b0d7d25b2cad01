-- The parameters of a function definition pass in its body: what the scope of its own parameters names is one of them, or isn't automatic.
use Rattle.std.specs.Prelude.{◌≡◌, ℕ, ◌==◌, ◌⊎◌, Bool, true, false, ◌||◌, ◌&&◌, not, if◌then◌else◌, List, [], ◌∷◌, ◌++◌, length, Option, Some, None, is_some, refl}
use Rattle.std.specs.FinMap as map
use Rattle.std.proofs.Common.{sym, ◌∙◌, subst, inl, inr, ⊎_elim}
use Rattle.dm_type.specs.CTypes.{CType, void}
use Rattle.dm_type.specs.TableLaws.{injected}
use Rattle.dm_scope.specs.Scopes.{Scopes}
use Rattle.dm_syn.specs.Sources.{spelling_at}
use Rattle.dm_syn.specs.Spans.{expr_span}
use Rattle.dm_syn.specs.Scopes.{declarator_name}
use Rattle.dm_syn.specs.Statements.{own_in_pointers, own_parameters, own_in_direct}
use Rattle.dm_syn.specs.Trees.{Expr, Declarator, Direct, Parameters, Parameter}
use Rattle.dm_syn.specs.Trees as tree
use Rattle.dm_tree.specs.Scenes.{is_function}
use Rattle.dm_tree.specs.Units.{Declaration}
use Rattle.dm_effect.specs.Scoped.{is_in_scope}
use Rattle.dm_typing.specs.Known.{Known, Setting, Outcome, given, broken, after, with_it, obeys}
use Rattle.dm_typing.specs.Conversions.{is_same, as_value}
use Rattle.dm_typing.specs.Specifiers.{elsewhere}
use Rattle.dm_typing.specs.Typing.{TypedParameter, Step as Made, arraying, calling, pointers, direct_at, derived, length_of, typed, adjusted, without_void, parameter_entry, is_new_parameter, parameter_declared, entered, left, typed_specifiers, steps_of, direct_steps, parameters_of, parameter_of}
use Rattle.dm_typing.proofs.KindLemmas.{numbers-same}
use Rattle.dm_edecl.specs.Declaring.{typed_declarator}
use Rattle.dm_edecl.specs.Units.{defined_parameters, own_defined, Heading, innermost, put_before, numbers_of, typed_heading}
use Rattle.dm_edecl.proofs.ParameterLemmas.{SameAs, list-same}
use Rattle.dm_scoped.proofs.ScopeLemmas.{Grown, grown-itself, grown-through, SeesIn, Sees, sees-in, empty-sees, sees-first, sees-changes, in-changes}
use Rattle.dm_scoped.proofs.StepLemmas.{IsScopedIn, Step, Gives, Any, step-none, step-through, after-gives, with-gives, declaring-step, entered-sees, left-gives}
use Rattle.dm_scoped.proofs.ExpressionLemmas.{expr-scoped, specifiers-scoped, declarator-scoped, direct-scoped, parameters-scoped, derived-gives, length-gives}
use Rattle.dm_scoped.proofs.StandingLemmas.{none-pass}
use Rattle.dm_scoped.proofs.StatementLemmas.{also, or-left, or-right, or-swap}

-- ---- the scope of parameters

-- what passes behind a parameter, and behind several
abbrev with_own : (ℕ → Bool) → Option ℕ → ℕ → Bool
with_own seen None = seen
with_own seen (Some n) = also seen n

abbrev with_owns : (ℕ → Bool) → List TypedParameter → ℕ → Bool
with_owns seen [] = seen
with_owns seen (first ∷ others) = with_owns (with_own seen first.declared) others

unfoldable Gains : {A : Type 0} → (A → ℕ → Bool) → Known → Outcome A → Type 0
Gains more known (given behind it) = Step (more it) known behind
Gains more known (broken rule at) = Unit {0}

step-past : (one more : ℕ → Bool) (a b c : Known) → Step one a b → Step more b c → Step more a c
step-past one more a b c first second = record {
  grown = grown-through a.declared b.declared c.declared first.grown second.grown;
  sees = second.sees;
  depth = second.depth ∙ first.depth;
}

gains-from : {A : Type 0} (one : ℕ → Bool) (more : A → ℕ → Bool) (known behind : Known) (outcome : Outcome A) → Step one known behind → Gains more behind outcome
    → Gains more known outcome
unfolding Gains
gains-from one more known behind (given last it) step h = step-past one (more it) known behind last step h
gains-from one more known behind (broken rule at) step h = tt

after-gains : {A B : Type 0} (seen : ℕ → Bool) (more : B → ℕ → Bool) (known : Known) (outcome : Outcome A) (next : Known → A → Outcome B) → Gives seen Any known outcome
    → ((behind : Known) (it : A) → Step seen known behind → Gains more behind (next behind it)) → Gains more known (after outcome next)
unfolding Gains Gives
after-gains seen more known (given behind it) next h step = gains-from seen more known behind (next behind it) h.0 (step behind it h.0)
after-gains seen more known (broken rule at) next h step = tt

obeys-gains : {A : Type 0} (more : A → ℕ → Bool) (known : Known) (test : Bool) (rule at : ℕ) (next : Outcome A) → Gains more known next → Gains more known (obeys test rule at next)
unfolding Gains
obeys-gains more known true rule at next h = h
obeys-gains more known false rule at next h = tt

abbrev behind_one : (ℕ → Bool) → TypedParameter → ℕ → Bool
behind_one seen one = with_own seen one.declared

same-number : (n : ℕ) → (n == n) ≡ true
same-number n = numbers-same n n refl

module _ (setting : Setting) where
  declared-gains : (seen : ℕ → Bool) (known : Known) (type : CType) (name : Option ℕ) → Sees known.declared seen known.scopes
      → Gains (behind_one seen) known (parameter_declared setting known (adjusted type) name)
  unfolding Gains
  declared-gains seen known type None sees = step-none seen known sees
  declared-gains seen known type (Some at) sees =
      let n = length known.declared in
      declaring-step (also seen n) known (spelling_at setting.source at) (parameter_entry setting at (adjusted type))
      (sees-changes known.declared known.declared seen (also seen n) known.scopes (grown-itself known.declared) (λ d h. or-right (n == d) (seen d) h) sees)
      (λ auto. or-left (n == n) (seen n) (same-number n))

  parameter-gains : (seen : ℕ → Bool) (known : Known) (parameter : Parameter) → Sees known.declared seen known.scopes
      → Gains (behind_one seen) known (parameter_of setting true known parameter)
  unfolding parameter_of
  parameter-gains seen known (tree.parameter span specifiers declarator) sees =
      after-gains seen (behind_one seen) known (typed_specifiers setting true elsewhere false known specifiers) _ (specifiers-scoped setting seen true elsewhere false known specifiers sees) (λ then_known base step.
      after-gains seen (behind_one seen) then_known (steps_of setting true then_known declarator) _ (declarator-scoped setting seen true then_known declarator step.sees) (λ then_more steps more.
      after-gains seen (behind_one seen) then_more (derived then_more base steps) _ (derived-gives seen then_more base steps more.sees) (λ behind type last.
      obeys-gains (behind_one seen) behind (is_new_parameter setting behind (declarator_name declarator)) 2 _ _
      (obeys-gains (behind_one seen) behind (not (is_function type)) 5 _ _ (declared-gains seen behind type (declarator_name declarator) last.sees)))))

  -- one before others
  before-gain : (seen : ℕ → Bool) (known : Known) (first : Outcome TypedParameter) (others : Known → Outcome (List TypedParameter)) → Gains (behind_one seen) known first
      → ((behind : Known) (one : TypedParameter) → Sees behind.declared (behind_one seen one) behind.scopes → Gains (with_owns (behind_one seen one)) behind (others behind))
      → Gains (with_owns seen) known (after first (λ then_known made. with_it (others then_known) (λ behind rest. made ∷ rest)))
  unfolding Gains
  before-gain seen known (given behind one) others h rest = go (others behind) (rest behind one h.sees)
    where
      go : (outcome : Outcome (List TypedParameter)) → Gains (with_owns (behind_one seen one)) behind outcome → Gains (with_owns seen) known (with_it outcome (λ last list. one ∷ list))
      go (given last list) g = step-past (behind_one seen one) (with_owns (behind_one seen one) list) known behind last h g
      go (broken rule at) g = tt
  before-gain seen known (broken rule at) others h rest = tt

  parameters-gain : (seen : ℕ → Bool) (known : Known) (these : Parameters) → Sees known.declared seen known.scopes
      → Gains (with_owns seen) known (parameters_of setting true known these)
  unfolding parameters_of Gains
  parameters-gain seen known tree.no_parameters sees = step-none seen known sees
  parameters-gain seen known (tree.more_parameters first others) sees =
      before-gain seen known (parameter_of setting true known first) (λ then_known. parameters_of setting true then_known others) (parameter-gains seen known first sees)
      (λ behind one stands. parameters-gain (behind_one seen one) behind others stands)

-- ---- the numbers of parameters

with-put : (found : Option ℕ) (numbers : List ℕ) (seen : ℕ → Bool) (d : ℕ) → (is_in_scope numbers d || with_own seen found d) ≡ true → (is_in_scope (put_before found numbers) d || seen d) ≡ true
with-put None numbers seen d h = h
with-put (Some n) numbers seen d h = or-swap (is_in_scope numbers d) (n == d) (seen d) h

owns-in : (seen : ℕ → Bool) (list : List TypedParameter) (d : ℕ) → with_owns seen list d ≡ true → (is_in_scope (numbers_of list) d || seen d) ≡ true
owns-in seen [] d h = h
owns-in seen (first ∷ others) d h = with-put first.declared (numbers_of others) seen d (owns-in (with_own seen first.declared) others d h)

or-false : (one : Bool) → (one || false) ≡ true → one ≡ true
or-false true h = refl
or-false false h = h

-- `void` alone has no number
pub void-alone : (list : List TypedParameter) → numbers_of (without_void list) ≡ numbers_of list
void-alone [] = refl
void-alone (first ∷ []) = by-declared first.declared (is_same first.kind void)
  where
    by-declared : (found : Option ℕ) (test : Bool) → numbers_of (if test && not (is_some found) then [] else record first { declared = found } ∷ []) ≡ put_before found []
    by-declared None true = refl
    by-declared None false = refl
    by-declared (Some n) true = refl
    by-declared (Some n) false = refl
void-alone (first ∷ second ∷ others) = refl

-- ---- they are those of the declarator

-- the declarator's own parameters, which were typed first, are known behind it; or nothing is typed yet
unfoldable pub OwnIn : Setting → Option Parameters → Known → Parameters → Outcome (List Made) → Type 0
OwnIn setting nearest known these (given behind steps) =
    ((nearest ≡ Some these) × (behind ≡ known))
    ⊎ ((inner : Known) × (typed : List TypedParameter) × (parameters_of setting true (entered known) these ≡ given inner typed) × Grown inner.declared behind.declared)
OwnIn setting nearest known these (broken rule at) = Unit {0}

abbrev IsFound : Setting → Known → Parameters → Known → Type 0
IsFound setting known these behind =
    (inner : Known) × (typed : List TypedParameter) × (parameters_of setting true (entered known) these ≡ given inner typed) × Grown inner.declared behind.declared

found-later : (setting : Setting) (known : Known) (these : Parameters) (behind last : Known) → Grown behind.declared last.declared → IsFound setting known these behind
    → IsFound setting known these last
found-later setting known these behind last grown found = (found.0, found.1, found.2, grown-through found.0.declared behind.declared last.declared found.3 grown)

with-pointers : (setting : Setting) (nearest : Option Parameters) (known : Known) (these : Parameters) (at : ℕ) (consts : List ℕ) (outcome : Outcome (List Made))
    → OwnIn setting (own_in_pointers consts nearest) known these outcome → OwnIn setting nearest known these (with_it outcome (λ behind steps. pointers at consts ++ steps))
unfolding OwnIn
with-pointers setting nearest known these at [] (given behind steps) own = own
with-pointers setting nearest known these at (one ∷ others) (given behind steps) own = ⊎_elim (λ here. let e = here.0 in absurd (cc)) (λ found. inr found) own
with-pointers setting nearest known these at consts (broken rule place) own = tt

with-made : (setting : Setting) (nearest : Option Parameters) (known : Known) (these : Parameters) (outcome : Outcome (List Made)) (step : Made) → OwnIn setting None known these outcome
    → OwnIn setting nearest known these (with_it outcome (λ behind steps. step ∷ steps))
unfolding OwnIn
with-made setting nearest known these (given behind steps) step own = ⊎_elim (λ here. let e = here.0 in absurd (cc)) (λ found. inr found) own
with-made setting nearest known these (broken rule at) step own = tt

later-own : (seen : ℕ → Bool) (setting : Setting) (nearest : Option Parameters) (known : Known) (these : Parameters) (behind : Known) (outcome : Outcome (List Made))
    → IsFound setting known these behind → Gives seen Any behind outcome → OwnIn setting nearest known these outcome
unfolding OwnIn Gives
later-own seen setting nearest known these behind (given last steps) found h = inr (found-later setting known these behind last h.0.grown found)
later-own seen setting nearest known these behind (broken rule at) found h = tt

then-more : (seen : ℕ → Bool) (setting : Setting) (nearest : Option Parameters) (known : Known) (these : Parameters) (first : Outcome (List Made)) (next : Known → List Made → Outcome (List Made))
    → Gives seen Any known first → OwnIn setting None known these first → ((behind : Known) (steps : List Made) → Step seen known behind → Gives seen Any behind (next behind steps))
    → OwnIn setting nearest known these (after first next)
unfolding OwnIn Gives
then-more seen setting nearest known these (given behind steps) next h own step =
    ⊎_elim (λ here. let e = here.0 in absurd (cc)) (λ found. later-own seen setting nearest known these behind (next behind steps) found (step behind steps h.0)) own
then-more seen setting nearest known these (broken rule at) next h own step = tt

-- a list of parameters that stands nearest to the name, or behind other ones
then-calling : (seen : ℕ → Bool) (setting : Setting) (nearest : Option Parameters) (known : Known) (these mine : Parameters) (here : ℕ) (first : Outcome (List Made))
    → Gives seen Any known first → OwnIn setting (Some mine) known these first
    → ((behind : Known) (steps : List Made) → Step seen known behind
    → Gives seen Any behind (with_it (left behind.scopes (parameters_of setting true (entered behind) mine)) (λ last typed. calling here (without_void typed) ∷ steps)))
    → OwnIn setting nearest known these
    (after first (λ behind steps. with_it (left behind.scopes (parameters_of setting true (entered behind) mine)) (λ last typed. calling here (without_void typed) ∷ steps)))
unfolding OwnIn Gives
then-calling seen setting nearest known these mine here (given behind steps) h own step =
    ⊎_elim (λ is. nearest-own is (parameters_of setting true (entered behind) mine) refl)
    (λ found. later-own seen setting nearest known these behind _ found (step behind steps h.0)) own
  where
    nearest-own : (Some mine ≡ Some these) × (behind ≡ known) → (outcome : Outcome (List TypedParameter)) → parameters_of setting true (entered behind) mine ≡ outcome
        → OwnIn setting nearest known these (with_it (left behind.scopes outcome) (λ last typed. calling here (without_void typed) ∷ steps))
    nearest-own is (given inner typed) e =
        let same : mine ≡ these = injected mine these is.0 in
        inr (
          inner,
          typed,
          subst (λ (it : Known). parameters_of setting true (entered it) these ≡ given inner typed) is.1
              (subst (λ it. parameters_of setting true (entered behind) it ≡ given inner typed) same e),
          grown-itself inner.declared,
        )
    nearest-own is (broken rule at) e = tt
then-calling seen setting nearest known these mine here (broken rule at) h own step = tt

module _ (seen : ℕ → Bool) (setting : Setting) where
  length-steps : (known : Known) (here : ℕ) (value : Expr) (steps : List Made) → Sees known.declared seen known.scopes
      → Gives seen Any known (after (typed setting true known value) (λ behind made. with_it (length_of behind (expr_span value).first (as_value made)) (λ last n. arraying here (Some n) ∷ steps)))
  length-steps known here value steps sees =
      after-gives seen (IsScopedIn seen) Any known (typed setting true known value) _ (expr-scoped setting seen true known (expr_span value) value sees)
      (λ behind made step one. with-gives seen Any Any behind (length_of behind (expr_span value).first (as_value made)) _
      (length-gives seen setting behind step.sees (expr_span value).first (as_value made)) (λ last n more any. tt))

  calling-steps : (known : Known) (here : ℕ) (these : Parameters) (steps : List Made) → Sees known.declared seen known.scopes
      → Gives seen Any known (with_it (left known.scopes (parameters_of setting true (entered known) these)) (λ last typed. calling here (without_void typed) ∷ steps))
  calling-steps known here these steps sees =
      with-gives seen Any Any known (left known.scopes (parameters_of setting true (entered known) these)) _
      (left-gives seen known (parameters_of setting true (entered known) these) sees (parameters-scoped setting true (entered known) these (entered-sees seen known sees)))
      (λ last typed step any. tt)

  mutual
    unfolding steps_of direct_steps OwnIn

    own-declarator : (known : Known) (nearest : Option Parameters) (these : Parameters) (declarator : Declarator) → Sees known.declared seen known.scopes
        → own_parameters nearest declarator ≡ Some these → OwnIn setting nearest known these (steps_of setting true known declarator)
    own-declarator known nearest these (tree.shaped span consts direct) sees e =
        with-pointers setting nearest known these span.first consts (direct_steps setting true known (direct_at span.first consts) direct)
        (own-direct known (own_in_pointers consts nearest) these (direct_at span.first consts) direct sees e)

    own-direct : (known : Known) (nearest : Option Parameters) (these : Parameters) (here : ℕ) (direct : Direct) → Sees known.declared seen known.scopes
        → own_in_direct nearest direct ≡ Some these → OwnIn setting nearest known these (direct_steps setting true known here direct)
    own-direct known nearest these here tree.absent sees e = inl (e, refl)
    own-direct known nearest these here (tree.declared name) sees e = inl (e, refl)
    own-direct known nearest these here (tree.enclosed declarator) sees e = own-declarator known nearest these declarator sees e
    own-direct known nearest these here (tree.array direct) sees e =
        with-made setting nearest known these (direct_steps setting true known here direct) (arraying here None) (own-direct known None these here direct sees e)
    own-direct known nearest these here (tree.sized direct value) sees e =
        then-more seen setting nearest known these (direct_steps setting true known here direct) _ (direct-scoped setting seen true known here direct sees)
        (own-direct known None these here direct sees e) (λ behind steps step. length-steps behind here value steps step.sees)
    own-direct known nearest these here (tree.function direct mine) sees e =
        then-calling seen setting nearest known these mine here (direct_steps setting true known here direct) (direct-scoped setting seen true known here direct sees)
        (own-direct known (Some mine) these here direct sees e) (λ behind steps step. calling-steps behind here mine steps step.sees)

-- ---- headings

-- in the scope of a heading its parameters pass
abbrev pub IsScopedHeading : List Declaration → Heading → Type 0
IsScopedHeading declared heading = SeesIn declared (is_in_scope (numbers_of heading.parameters)) heading.scope

first-sees : (declared : List Declaration) (seen : ℕ → Bool) (scopes : Scopes) → Sees declared seen scopes → SeesIn declared seen (innermost scopes)
first-sees declared seen [] sees = empty-sees declared seen
first-sees declared seen (scope ∷ scopes) sees = sees-first declared seen scope scopes sees

module _ (setting : Setting) (known : Known) (sees : Sees known.declared none-pass known.scopes) (base : CType) (declarator : Declarator) where
  -- behind the declarator
  made-gives : (inside : Known) (typed : List TypedParameter) → SeesIn inside.declared (with_owns none-pass typed) (innermost inside.scopes)
      → ((behind : Known) (steps : List Made) → steps_of setting true known declarator ≡ given behind steps → Grown inside.declared behind.declared)
      → Gives none-pass IsScopedHeading known
      (with_it (typed_declarator setting known base declarator) (λ behind kind. record { kind = kind; parameters = without_void typed; scope = innermost inside.scopes }))
  unfolding Gives
  made-gives inside typed stands kept =
      by-steps (steps_of setting true known declarator) refl (declarator-scoped setting none-pass true known declarator sees)
    where
      by-steps : (outcome : Outcome (List Made)) → steps_of setting true known declarator ≡ outcome → Gives none-pass Any known outcome
          → Gives none-pass IsScopedHeading known
          (with_it (after outcome (λ behind steps. derived behind base steps)) (λ behind kind. record { kind = kind; parameters = without_void typed; scope = innermost inside.scopes }))
      by-steps (given behind steps) e h = by-type (derived behind base steps) (derived-gives none-pass behind base steps h.0.sees)
        where
          by-type : (outcome : Outcome CType) → Gives none-pass Any behind outcome
              → Gives none-pass IsScopedHeading known (with_it outcome (λ last kind. record { kind = kind; parameters = without_void typed; scope = innermost inside.scopes }))
          by-type (given last kind) g = (
            step-through none-pass known behind last h.0 g.0,
            in-changes inside.declared last.declared (with_owns none-pass typed) (is_in_scope (numbers_of (without_void typed))) (innermost inside.scopes)
                (grown-through inside.declared behind.declared last.declared (kept behind steps e) g.0.grown)
                (λ d is. subst (λ numbers. is_in_scope numbers d ≡ true) (sym (void-alone typed)) (or-false (is_in_scope (numbers_of typed) d) (owns-in none-pass typed d is))) stands,
          )
          by-type (broken rule at) g = tt
      by-steps (broken rule at) e h = tt

  pub own-kept : (these : Parameters) (inside : Known) (typed : List TypedParameter) → own_parameters None declarator ≡ Some these
      → parameters_of setting true (entered known) these ≡ given inside typed
      → (behind : Known) (steps : List Made) → steps_of setting true known declarator ≡ given behind steps → Grown inside.declared behind.declared
  unfolding OwnIn
  own-kept these inside typed is e behind steps made =
      ⊎_elim (λ here. let no = here.0 in absurd (cc))
      (λ found. subst (λ (it : Known). Grown it.declared behind.declared) (same-known found.0 inside found.1 typed (sym found.2 ∙ e)) found.3)
      (subst (OwnIn setting None known these) made (own-declarator none-pass setting known None these declarator sees is))
    where
      same-known : (one other : Known) (a b : List TypedParameter) → given one a ≡ given other b → one ≡ other
      same-known one other a b e = cc

  entered-none : Sees (entered known).declared none-pass (entered known).scopes
  entered-none = sees-in known.declared none-pass map.empty known.scopes (empty-sees known.declared none-pass) sees

  pub heading-gives : Gives none-pass IsScopedHeading known (typed_heading setting known base declarator)
  unfolding SameAs Gives Gains
  heading-gives = by-own (own_parameters None declarator) refl
    where
      by-own : (found : Option Parameters) → own_parameters None declarator ≡ found
          → Gives none-pass IsScopedHeading known
          (after (own_defined setting known found) (λ inside typed. with_it (typed_declarator setting known base declarator)
          (λ behind kind. record { kind = kind; parameters = without_void typed; scope = innermost inside.scopes })))
      by-own None is =
          made-gives known [] (first-sees known.declared none-pass known.scopes sees)
          (λ behind steps made. let h = subst (Gives none-pass Any known) made (declarator-scoped setting none-pass true known declarator sees) in h.0.grown)
      by-own (Some these) is =
          by-list (defined_parameters setting true (entered known) these) (list-same setting true (entered known) these)
          (λ inside typed e. made-gives inside typed (owned inside typed e) (own-kept these inside typed is e))
        where
          by-list : (outcome : Outcome (List TypedParameter)) → SameAs outcome (parameters_of setting true (entered known) these)
              → ((inside : Known) (typed : List TypedParameter) → parameters_of setting true (entered known) these ≡ given inside typed
              → Gives none-pass IsScopedHeading known (with_it (typed_declarator setting known base declarator)
              (λ behind kind. record { kind = kind; parameters = without_void typed; scope = innermost inside.scopes })))
              → Gives none-pass IsScopedHeading known
              (after outcome (λ inside typed. with_it (typed_declarator setting known base declarator)
              (λ behind kind. record { kind = kind; parameters = without_void typed; scope = innermost inside.scopes })))
          by-list (given inside typed) same next = next inside typed same
          by-list (broken rule at) same next = tt

          owned : (inside : Known) (typed : List TypedParameter) → parameters_of setting true (entered known) these ≡ given inside typed
              → SeesIn inside.declared (with_owns none-pass typed) (innermost inside.scopes)
          owned inside typed e =
              let step = subst (Gains (with_owns none-pass) (entered known)) e (parameters-gain setting none-pass (entered known) these entered-none) in
              first-sees inside.declared (with_owns none-pass typed) inside.scopes step.sees
