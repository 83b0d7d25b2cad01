-- The parameters of a function definition are declared by numbers that are new, and behind one another.
use Rattle.std.specs.Prelude.{◌≡◌, refl, ℕ, ◌+◌, ◌≤◌, Bool, true, false, not, List, [], ◌∷◌, ◌++◌, length, Option, Some, None}
use Rattle.std.proofs.Common.{sym, subst, arith, length-append}
use Rattle.dm_type.specs.CTypes.{CType}
use Rattle.dm_syn.specs.Sources.{spelling_at}
use Rattle.dm_syn.specs.Scopes.{declarator_name}
use Rattle.dm_syn.specs.Statements.{own_parameters}
use Rattle.dm_syn.specs.Trees.{Declarator, Parameters, Parameter}
use Rattle.dm_syn.specs.Trees as tree
use Rattle.dm_tree.specs.Scenes.{is_function}
use Rattle.dm_tree.specs.Units.{Declaration}
use Rattle.dm_typing.specs.Known.{Known, Setting, Outcome, given, broken, after, with_it, declaring}
use Rattle.dm_typing.specs.Specifiers.{elsewhere}
use Rattle.dm_typing.specs.Typing.{TypedParameter, Step as Made, derived, adjusted, without_void, parameter_entry, is_new_parameter, parameter_declared, entered, typed_specifiers, steps_of, parameters_of, parameter_of}
use Rattle.dm_edecl.specs.Declaring.{typed_declarator}
use Rattle.dm_edecl.specs.Units.{defined_parameters, own_defined, Heading, innermost, put_before, numbers_of, typed_heading}
use Rattle.dm_edecl.proofs.ParameterLemmas.{SameAs, list-same}
use Rattle.dm_scoped.proofs.ScopeLemmas.{Grown, grown-through, Sees}
use Rattle.dm_scoped.proofs.StepLemmas.{Gives, Any, all-pass, step-through, gives-so, stays, after-gives, with-gives, obeys-gives, declaring-step, entered-sees}
use Rattle.dm_scoped.proofs.ExpressionLemmas.{specifiers-scoped, declarator-scoped, derived-gives}
use Rattle.dm_scoped.proofs.StandingLemmas.{none-pass}
use Rattle.dm_scoped.proofs.HeadingLemmas.{void-alone, own-kept}
use Rattle.dm_declared.proofs.NumberLemmas.{Rises, wider, joined, one_new}
use Rattle.dm_declared.proofs.NewLemmas.{length_grown}

-- ---- claims

abbrev ParameterRises : ℕ → List Declaration → TypedParameter → Type 0
ParameterRises low declared one = (automatic : ℕ → Bool) → Rises automatic low (put_before one.declared []) (length declared)

abbrev ParametersRise : ℕ → List Declaration → List TypedParameter → Type 0
ParametersRise low declared list = (automatic : ℕ → Bool) → Rises automatic low (numbers_of list) (length declared)

abbrev pub HeadingRises : ℕ → List Declaration → Heading → Type 0
HeadingRises low declared heading = ParametersRise low declared heading.parameters

put_then : (automatic : ℕ → Bool) (low mid high : ℕ) (found : Option ℕ) (ns : List ℕ) → Rises automatic low (put_before found []) mid → Rises automatic mid ns high
    → Rises automatic low (put_before found ns) high
put_then automatic low mid high None ns r q = wider automatic low mid high high ns r (omega arith) q
put_then automatic low mid high (Some n) ns r q = joined automatic low mid high (n ∷ []) ns r q

module _ (setting : Setting) where
  -- ---- parameters

  declared_gives : (low : ℕ) (known : Known) (type : CType) (name : Option ℕ) → low ≤ length known.declared → Sees known.declared all-pass known.scopes
      → Gives all-pass (ParameterRises low) known (parameter_declared setting known (adjusted type) name)
  declared_gives low known type None l sees = stays all-pass (ParameterRises low) known _ sees (λ automatic. l)
  declared_gives low known type (Some at) l sees =
      let n = length known.declared in
      let entry = parameter_entry setting at (adjusted type) in
      let more : length (known.declared ++ entry ∷ []) ≡ n + 1 = length-append known.declared (entry ∷ []) in
      gives-so all-pass (ParameterRises low) known (declaring known (spelling_at setting.source at) entry) _ (declaring-step all-pass known (spelling_at setting.source at) entry sees (λ auto. refl))
      (λ automatic. one_new automatic low n (length (known.declared ++ entry ∷ [])) l (omega (arith, more)))

  parameter_gives : (known : Known) (parameter : Parameter) → Sees known.declared all-pass known.scopes → Gives all-pass (ParameterRises (length known.declared)) known (parameter_of setting true known parameter)
  unfolding parameter_of
  parameter_gives known (tree.parameter span specifiers declarator) sees =
      let P = ParameterRises (length known.declared) in
      after-gives all-pass Any P known (typed_specifiers setting true elsewhere false known specifiers) _ (specifiers-scoped setting all-pass true elsewhere false known specifiers sees) (λ then_known base step any.
      after-gives all-pass Any P then_known (steps_of setting true then_known declarator) _ (declarator-scoped setting all-pass true then_known declarator step.sees) (λ then_more steps more any.
      after-gives all-pass Any P then_more (derived then_more base steps) _ (derived-gives all-pass then_more base steps more.sees) (λ behind type last any.
      let grown = grown-through known.declared then_known.declared behind.declared step.grown (grown-through then_known.declared then_more.declared behind.declared more.grown last.grown) in
      obeys-gives all-pass P behind (is_new_parameter setting behind (declarator_name declarator)) 2 _ _
      (obeys-gives all-pass P behind (not (is_function type)) 5 _ _
      (declared_gives (length known.declared) behind type (declarator_name declarator) (length_grown known.declared behind.declared grown) last.sees)))))

  parameters_give : (known : Known) (these : Parameters) → Sees known.declared all-pass known.scopes → Gives all-pass (ParametersRise (length known.declared)) known (parameters_of setting true known these)
  unfolding parameters_of
  parameters_give known tree.no_parameters sees = stays all-pass (ParametersRise (length known.declared)) known [] sees (λ automatic. omega arith)
  parameters_give known (tree.more_parameters first others) sees =
      let low = length known.declared in
      after-gives all-pass (ParameterRises low) (ParametersRise low) known (parameter_of setting true known first) _ (parameter_gives known first sees) (λ then_known made step one.
      with-gives all-pass (ParametersRise (length then_known.declared)) (ParametersRise low) then_known (parameters_of setting true then_known others) _ (parameters_give then_known others step.sees)
      (λ behind rest more all automatic. put_then automatic low (length then_known.declared) (length behind.declared) made.declared (numbers_of rest) (one automatic) (all automatic)))

  -- ---- headings

  module _ (known : Known) (sees : Sees known.declared none-pass known.scopes) (base : CType) (declarator : Declarator) where
    abbrev low : ℕ
    low = length known.declared

    -- behind the declarator
    made_gives : (inside : Known) (typed : List TypedParameter) → ParametersRise low inside.declared typed
        → ((behind : Known) (steps : List Made) → steps_of setting true known declarator ≡ given behind steps → Grown inside.declared behind.declared)
        → Gives none-pass (HeadingRises low) known
        (with_it (typed_declarator setting known base declarator) (λ behind kind. record { kind = kind; parameters = without_void typed; scope = innermost inside.scopes }))
    unfolding Gives
    made_gives inside typed rises kept = by-steps (steps_of setting true known declarator) refl (declarator-scoped setting none-pass true known declarator sees)
      where
        by-steps : (outcome : Outcome (List Made)) → steps_of setting true known declarator ≡ outcome → Gives none-pass Any known outcome
            → Gives none-pass (HeadingRises low) known
            (with_it (after outcome (λ behind steps. derived behind base steps)) (λ behind kind. record { kind = kind; parameters = without_void typed; scope = innermost inside.scopes }))
        by-steps (given behind steps) e h = by-type (derived behind base steps) (derived-gives none-pass behind base steps h.0.sees)
          where
            by-type : (outcome : Outcome CType) → Gives none-pass Any behind outcome
                → Gives none-pass (HeadingRises low) known (with_it outcome (λ last kind. record { kind = kind; parameters = without_void typed; scope = innermost inside.scopes }))
            by-type (given last kind) g = (
              step-through none-pass known behind last h.0 g.0,
              λ automatic. subst (λ ds. Rises automatic low ds (length last.declared)) (sym (void-alone typed))
                  (wider automatic low low (length inside.declared) (length last.declared) (numbers_of typed) (omega arith)
                  (length_grown inside.declared last.declared (grown-through inside.declared behind.declared last.declared (kept behind steps e) g.0.grown)) (rises automatic)),
            )
            by-type (broken rule at) g = tt
        by-steps (broken rule at) e h = tt

    pub heading_gives : Gives none-pass (HeadingRises low) known (typed_heading setting known base declarator)
    unfolding SameAs Gives
    heading_gives = by-own (own_parameters None declarator) refl
      where
        by-own : (found : Option Parameters) → own_parameters None declarator ≡ found
            → Gives none-pass (HeadingRises low) known
            (after (own_defined setting known found) (λ inside typed. with_it (typed_declarator setting known base declarator)
            (λ behind kind. record { kind = kind; parameters = without_void typed; scope = innermost inside.scopes })))
        by-own None is =
            made_gives known [] (λ automatic. omega arith)
            (λ behind steps made. let h = subst (Gives none-pass Any known) made (declarator-scoped setting none-pass true known declarator sees) in h.0.grown)
        by-own (Some these) is =
            by-list (defined_parameters setting true (entered known) these) (list-same setting true (entered known) these)
            (λ inside typed e. made_gives inside typed (owned inside typed e) (own-kept setting known sees base declarator these inside typed is e))
          where
            by-list : (outcome : Outcome (List TypedParameter)) → SameAs outcome (parameters_of setting true (entered known) these)
                → ((inside : Known) (typed : List TypedParameter) → parameters_of setting true (entered known) these ≡ given inside typed
                → Gives none-pass (HeadingRises low) known (with_it (typed_declarator setting known base declarator)
                (λ behind kind. record { kind = kind; parameters = without_void typed; scope = innermost inside.scopes })))
                → Gives none-pass (HeadingRises low) known
                (after outcome (λ inside typed. with_it (typed_declarator setting known base declarator)
                (λ behind kind. record { kind = kind; parameters = without_void typed; scope = innermost inside.scopes })))
            by-list (given inside typed) same next = next inside typed same
            by-list (broken rule at) same next = tt

            owned : (inside : Known) (typed : List TypedParameter) → parameters_of setting true (entered known) these ≡ given inside typed → ParametersRise low inside.declared typed
            owned inside typed e = (subst (Gives all-pass (ParametersRise low) (entered known)) e (parameters_give (entered known) these (entered-sees none-pass known sees))).1
