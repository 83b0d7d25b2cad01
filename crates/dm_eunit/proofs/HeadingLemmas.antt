-- The declarator of a function definition, part by part.
use Rattle.std.specs.Prelude.{◌≡◌, ℕ, Bool, true, false, ◌&&◌, not, is_some, if◌then◌else◌, List, [], ◌∷◌, ◌++◌, Option, Some, None, refl}
use Rattle.std.proofs.Common.{ap, ◌∙◌}
use Rattle.dm_token.specs.declared.place.Span.{Span}
use Rattle.dm_type.specs.CTypes.{CType, void}
use Rattle.dm_name_map.specs.Numbers.{Numbers}
use Rattle.dm_syn.specs.Statements.{own_in_pointers, own_parameters, own_in_direct}
use Rattle.dm_syn.specs.Trees.{Expr, Declarator, Direct, Parameters}
use Rattle.dm_syn.specs.Trees as tree
use Rattle.dm_syn.specs.Views as syntax
use Rattle.dm_typing.specs.Known.{Known, Setting, Outcome, given, broken, after, with_it}
use Rattle.dm_typing.specs.Conversions.{is_same}
use Rattle.dm_typing.specs.Typing.{Step, calling, pointers, direct_at, TypedParameter, without_void, entered, left, steps_of, direct_steps, parameters_of, derived}
use Rattle.dm_eexpr.specs.Parts.{array_steps, calling_steps}
use Rattle.dm_eexpr.proofs.SplitLemmas.{shaped-parts, absent-parts, named-parts, enclosed-parts, array-view-parts, function-parts}
use Rattle.dm_edecl.specs.Units.{defined_parameters, own_defined, Heading, typed_heading, innermost, numbers_of, put_before}
use Rattle.dm_edecl.proofs.ParameterLemmas.{SameAs, list-same}
use Rattle.dm_eunit.specs.Bare.{is_bare, is_bare_declarator}
use Rattle.dm_eunit.specs.Parts.{Begun, begun_by, declarator_begun, direct_begun, stepped, pointed, own_begun, Headed, headed}

-- ---- more steps

with-more : (setting : Setting) (known : Known) (own : Option Parameters) (steps : Outcome (List Step)) (more : List Step → List Step)
    → begun_by setting known own (with_it steps (λ behind these. more these)) ≡ with_it (begun_by setting known own steps) (λ behind begun. stepped begun (more begun.steps))
with-more setting known own steps more = go (own_defined setting known own) steps
  where
    go : (outcome : Outcome (List TypedParameter)) (others : Outcome (List Step))
        → after outcome (λ inside parameters. with_it (with_it others (λ behind these. more these)) (λ behind these. record { steps = these; numbers = numbers_of parameters; scope = innermost inside.scopes }))
        ≡ with_it (after outcome (λ inside parameters. with_it others (λ behind these. record { steps = these; numbers = numbers_of parameters; scope = innermost inside.scopes })))
        (λ behind begun. stepped begun (more begun.steps))
    go (given inside parameters) (given behind these) = refl
    go (given inside parameters) (broken rule at) = refl
    go (broken rule at) others = refl

after-more : (setting : Setting) (known : Known) (own : Option Parameters) (steps : Outcome (List Step)) (more : Known → List Step → Outcome (List Step))
    → begun_by setting known own (after steps more) ≡ after (begun_by setting known own steps) (λ behind begun. with_it (more behind begun.steps) (λ then_known these. stepped begun these))
after-more setting known own steps more = go (own_defined setting known own) steps
  where
    last : (outcome : Outcome (List Step)) (parameters : List TypedParameter) (inside : Known) (before : List Step)
        → with_it outcome (λ behind these. record { steps = these; numbers = numbers_of parameters; scope = innermost inside.scopes })
        ≡ with_it outcome (λ then_known these. stepped (record { steps = before; numbers = numbers_of parameters; scope = innermost inside.scopes }) these)
    last (given behind these) parameters inside before = refl
    last (broken rule at) parameters inside before = refl

    go : (outcome : Outcome (List TypedParameter)) (others : Outcome (List Step))
        → after outcome (λ inside parameters. with_it (after others more) (λ behind these. record { steps = these; numbers = numbers_of parameters; scope = innermost inside.scopes }))
        ≡ after (after outcome (λ inside parameters. with_it others (λ behind these. record { steps = these; numbers = numbers_of parameters; scope = innermost inside.scopes })))
        (λ behind begun. with_it (more behind begun.steps) (λ then_known these. stepped begun these))
    go (given inside parameters) (given behind these) = last (more behind these) parameters inside these
    go (given inside parameters) (broken rule at) = refl
    go (broken rule at) others = refl

-- ---- the definition's own parameters

own-none : (consts : List ℕ) → own_in_pointers consts None ≡ None
own-none [] = refl
own-none (pointer ∷ consts) = refl

mutual
  bare-own : (nearest : Option Parameters) (direct : Direct) → is_bare direct ≡ true → own_in_direct nearest direct ≡ nearest
  bare-own nearest tree.absent h = refl
  bare-own nearest (tree.declared name) h = refl
  bare-own nearest (tree.enclosed declarator) h = bare-own-declarator nearest declarator h
  bare-own nearest (tree.array direct) h = absurd (cc)
  bare-own nearest (tree.sized direct length) h = absurd (cc)
  bare-own nearest (tree.function direct others) h = absurd (cc)

  bare-own-declarator : (nearest : Option Parameters) (declarator : Declarator) → is_bare_declarator declarator ≡ true → own_parameters nearest declarator ≡ nearest
  bare-own-declarator nearest (tree.shaped span [] direct) h = bare-own nearest direct h
  bare-own-declarator nearest (tree.shaped span (pointer ∷ consts) direct) h = absurd (cc)

mutual
  other-own : (nearest : Option Parameters) (direct : Direct) → is_bare direct ≡ false → own_in_direct nearest direct ≡ own_in_direct None direct
  other-own nearest tree.absent h = absurd (cc)
  other-own nearest (tree.declared name) h = absurd (cc)
  other-own nearest (tree.enclosed declarator) h = other-own-declarator nearest declarator h
  other-own nearest (tree.array direct) h = refl
  other-own nearest (tree.sized direct length) h = refl
  other-own nearest (tree.function direct others) h = refl

  other-own-declarator : (nearest : Option Parameters) (declarator : Declarator) → is_bare_declarator declarator ≡ false → own_parameters nearest declarator ≡ own_parameters None declarator
  other-own-declarator nearest (tree.shaped span [] direct) h = other-own nearest direct h
  other-own-declarator nearest (tree.shaped span (pointer ∷ consts) direct) h = refl

module _ (setting : Setting) (known : Known) where
  mutual
    bare-steps : (here : ℕ) (direct : Direct) → is_bare direct ≡ true → direct_steps setting true known here direct ≡ given known []
    bare-steps here tree.absent h = absent-parts setting true known here
    bare-steps here (tree.declared name) h = named-parts setting true known here name
    bare-steps here (tree.enclosed declarator) h = enclosed-parts setting true known here declarator ∙ bare-declarator-steps declarator h
    bare-steps here (tree.array direct) h = absurd (cc)
    bare-steps here (tree.sized direct length) h = absurd (cc)
    bare-steps here (tree.function direct others) h = absurd (cc)

    bare-declarator-steps : (declarator : Declarator) → is_bare_declarator declarator ≡ true → steps_of setting true known declarator ≡ given known []
    bare-declarator-steps (tree.shaped span [] direct) h =
        shaped-parts setting true known span [] direct ∙ ap (λ outcome. with_it outcome (λ behind steps. pointers span.first [] ++ steps)) (bare-steps span.first direct h)
    bare-declarator-steps (tree.shaped span (pointer ∷ consts) direct) h = absurd (cc)

  -- ---- the parts

  pub shaped-begun : (span : Span) (consts : List ℕ) (direct : Direct) → declarator_begun setting known (tree.shaped span consts direct)
      ≡ with_it (direct_begun setting known (direct_at span.first consts) direct) (λ behind begun. pointed span.first consts begun)
  shaped-begun span consts direct =
      ap (λ own. begun_by setting known (own_in_direct own direct) (steps_of setting true known (tree.shaped span consts direct))) (own-none consts)
      ∙ ap (begun_by setting known (own_in_direct None direct)) (shaped-parts setting true known span consts direct)
      ∙ with-more setting known (own_in_direct None direct) (direct_steps setting true known (direct_at span.first consts) direct) (λ these. pointers span.first consts ++ these)

  pub enclosed-begun : (here : ℕ) (declarator : Declarator) → direct_begun setting known here (tree.enclosed declarator) ≡ declarator_begun setting known declarator
  enclosed-begun here declarator = ap (begun_by setting known (own_parameters None declarator)) (enclosed-parts setting true known here declarator)

  own-of-array : (direct : Direct) (length : Option Expr) → own_in_direct None (syntax.array_view direct length) ≡ own_in_direct None direct
  own-of-array direct None = refl
  own-of-array direct (Some value) = refl

  pub array-begun : (here : ℕ) (direct : Direct) (length : Option Expr) → direct_begun setting known here (syntax.array_view direct length)
      ≡ after (direct_begun setting known here direct) (λ behind begun. with_it (array_steps setting true behind here begun.steps length) (λ then_known these. stepped begun these))
  array-begun here direct length =
      ap (λ own. begun_by setting known own (direct_steps setting true known here (syntax.array_view direct length))) (own-of-array direct length)
      ∙ ap (begun_by setting known (own_in_direct None direct)) (array-view-parts setting true known here direct length)
      ∙ after-more setting known (own_in_direct None direct) (direct_steps setting true known here direct) (λ behind steps. array_steps setting true behind here steps length)

  pub called-begun : (here : ℕ) (direct : Direct) (parameters : Parameters) → is_bare direct ≡ false → direct_begun setting known here (tree.function direct parameters)
      ≡ after (direct_begun setting known here direct) (λ behind begun. with_it (calling_steps setting true behind here begun.steps parameters) (λ then_known these. stepped begun these))
  called-begun here direct parameters h =
      ap (λ own. begun_by setting known own (direct_steps setting true known here (tree.function direct parameters))) (other-own (Some parameters) direct h)
      ∙ ap (begun_by setting known (own_in_direct None direct)) (function-parts setting true known here direct parameters)
      ∙ after-more setting known (own_in_direct None direct) (direct_steps setting true known here direct) (λ behind steps. calling_steps setting true behind here steps parameters)

  -- those of the definition are typed once
  once : (here : ℕ) (defined : Outcome (List TypedParameter)) (typed : Outcome (List TypedParameter)) → SameAs defined typed
      → after {B = Begun} defined (λ inside ones. with_it (with_it (left known.scopes typed) (λ behind these. calling here (without_void these) ∷ []))
      (λ behind these. record { steps = these; numbers = numbers_of ones; scope = innermost inside.scopes }))
      ≡ after {B = Begun} defined (λ inside ones. given (record inside { scopes = known.scopes }) (record { steps = calling here (without_void ones) ∷ []; numbers = numbers_of ones; scope = innermost inside.scopes }))
  unfolding SameAs
  once here (given inside ones) typed same =
      ap (λ outcome. with_it {B = Begun} (with_it (left known.scopes outcome) (λ behind these. calling here (without_void these) ∷ []))
      (λ behind these. record { steps = these; numbers = numbers_of ones; scope = innermost inside.scopes })) same
  once here (broken rule at) typed same = refl

  pub own-is-begun : (here : ℕ) (direct : Direct) (parameters : Parameters) → is_bare direct ≡ true → direct_begun setting known here (tree.function direct parameters) ≡ own_begun setting known here parameters
  own-is-begun here direct parameters h =
      ap (λ own. begun_by setting known own (direct_steps setting true known here (tree.function direct parameters))) (bare-own (Some parameters) direct h)
      ∙ ap (begun_by setting known (Some parameters)) (function-parts setting true known here direct parameters ∙ ap (λ outcome. after outcome (λ behind steps. calling_steps setting true behind here steps parameters)) (bare-steps here direct h))
      ∙ once here (defined_parameters setting true (entered known) parameters) (parameters_of setting true (entered known) parameters) (list-same setting true (entered known) parameters)

  -- ---- the whole

  void-numbers : (these : List TypedParameter) → numbers_of (without_void these) ≡ numbers_of these
  void-numbers [] = refl
  void-numbers (first ∷ second ∷ others) = refl
  void-numbers (first ∷ []) = go first.kind first.declared (is_same first.kind void)
    where
      go : (kind : CType) (declared : Option ℕ) (test : Bool)
          → numbers_of (if test && not (is_some declared) then [] else record { kind = kind; declared = declared } ∷ []) ≡ put_before declared []
      go kind None true = refl
      go kind None false = refl
      go kind (Some number) true = refl
      go kind (Some number) false = refl

  headed-with : (outcome : Outcome CType) (parameters : List TypedParameter) (scope : Numbers)
      → headed (with_it outcome (λ behind kind. record { kind = kind; parameters = without_void parameters; scope = scope }))
      ≡ with_it {B = Headed} outcome (λ behind kind. record { kind = kind; numbers = numbers_of parameters; scope = scope })
  headed-with (given behind kind) parameters scope = ap (λ (numbers : List ℕ). given behind (record { kind = kind; numbers = numbers; scope = scope })) (void-numbers parameters)
  headed-with (broken rule at) parameters scope = refl

  pub heading-begun : (base : CType) (declarator : Declarator) → headed (typed_heading setting known base declarator)
      ≡ after (declarator_begun setting known declarator) (λ behind begun. with_it (derived behind base begun.steps) (λ then_known kind. record { kind = kind; numbers = begun.numbers; scope = begun.scope }))
  heading-begun base declarator = go (own_defined setting known (own_parameters None declarator)) (steps_of setting true known declarator)
    where
      go : (outcome : Outcome (List TypedParameter)) (steps : Outcome (List Step))
          → headed (after {B = Heading} outcome (λ inside parameters. with_it (after steps (λ behind these. derived behind base these))
          (λ behind kind. record { kind = kind; parameters = without_void parameters; scope = innermost inside.scopes })))
          ≡ after {B = Headed} (after {B = Begun} outcome (λ inside parameters. with_it steps (λ behind these. record { steps = these; numbers = numbers_of parameters; scope = innermost inside.scopes })))
          (λ behind begun. with_it (derived behind base begun.steps) (λ then_known kind. record { kind = kind; numbers = begun.numbers; scope = begun.scope }))
      go (given inside parameters) (given behind these) = headed-with (derived behind base these) parameters (innermost inside.scopes)
      go (given inside parameters) (broken rule at) = refl
      go (broken rule at) steps = refl
