-- The names in initialisers are in scope: by induction over the syntax.
use Rattle.std.specs.Prelude.{◌≡◌, ℕ, zero, suc, ◌+◌, Bool, true, ◌||◌, not, List, [], ◌∷◌, ◌++◌, length, Option, Some, None, refl}
use Rattle.std.proofs.Common.{sym, ap, ◌∙◌, arith, length-append}
use Rattle.dm_token.specs.declared.place.Span.{Span}
use Rattle.dm_type.specs.CTypes.{CType}
use Rattle.dm_syn.specs.Spans.{expr_span}
use Rattle.dm_syn.specs.Trees.{Expr, Initialiser, Initialisers}
use Rattle.dm_syn.specs.Trees as tree
use Rattle.dm_tree.specs.Scenes.{is_scalar, part_type}
use Rattle.dm_tree.specs.Trees.{Tree, expressions_in, expressions_in_items}
use Rattle.dm_tree.specs.Units.{Declaration}
use Rattle.dm_typing.specs.Known.{Known, Setting, Outcome}
use Rattle.dm_typing.specs.Conversions.{as_value, as_type}
use Rattle.dm_typing.specs.Rules.{is_assignable}
use Rattle.dm_typing.specs.Typing.{typed}
use Rattle.dm_edecl.specs.Initialising.{Initial, Initials, no_initials, with_first, enclosed, single, is_static_value, has_value, scalar_initialised, is_string_for, initialised_by, First, in_each_brace, braced, zero_initialised, first_scalar, expressions_alone, all_expressions_alone, misplaced, scalar_in_braces, is_zero_list, all_zero, if_part, typed_initialiser, typed_initialisers}
use Rattle.dm_scoped.proofs.OverLemmas.{Every}
use Rattle.dm_scoped.proofs.ScopeLemmas.{Sees}
use Rattle.dm_scoped.proofs.StepLemmas.{IsScopedIn, every-later, Gives, AllScoped, stays, after-gives, obeys-gives, if-gives, test-gives, broken-gives, weaker-gives}
use Rattle.dm_scoped.proofs.ExpressionLemmas.{value-scoped, as-type-scoped, expr-scoped}

-- its expressions are in scope, and as many as it says
abbrev pub IsScopedInitial : (ℕ → Bool) → List Declaration → Initial → Type 0
IsScopedInitial seen declared initial = Every (IsScopedIn seen declared) initial.expressions × (length initial.expressions ≡ expressions_in initial.form)

abbrev pub AreScopedInitials : (ℕ → Bool) → List Declaration → Initials → Type 0
AreScopedInitials seen declared initials = Every (IsScopedIn seen declared) initials.expressions × (length initials.expressions ≡ expressions_in_items initials.forms)

-- one expression
abbrev IsOne : (ℕ → Bool) → List Declaration → Initial → Type 0
IsOne seen declared initial = Every (IsScopedIn seen declared) initial.expressions × (length initial.expressions ≡ 1) × (expressions_in initial.form ≡ 1)

pub every-append : (P : Tree → Type 0) (first others : List Tree) → Every P first → Every P others → Every P (first ++ others)
every-append P [] others h g = g
every-append P (tree ∷ first) others h g = (h.0, every-append P first others h.1 g)

one-in-braces : (n : ℕ) → expressions_in (in_each_brace n) ≡ 1
one-in-braces zero = refl
one-in-braces (suc n) = let rest = one-in-braces n in omega (arith, rest)

module _ (seen : ℕ → Bool) (setting : Setting) (fixed : Bool) (known : Known) (sees : Sees known.declared seen known.scopes) where
  scalar-gives : (type : CType) (here : ℕ) (value : Tree) → IsScopedIn seen known.declared value → Gives seen (IsOne seen) known (scalar_initialised known fixed type here value)
  scalar-gives type here value h =
      obeys-gives seen (IsOne seen) known (not fixed || is_static_value known value) 8 here _
      (obeys-gives seen (IsOne seen) known (is_assignable known value type) 28 here _
      (obeys-gives seen (IsOne seen) known (not fixed || has_value known value) 30 here _
      (stays seen (IsOne seen) known (single (as_type type value)) sees ((as-type-scoped seen setting known sees type value h, tt), refl, refl))))

  scalar-initial : (type : CType) (here : ℕ) (value : Tree) → IsScopedIn seen known.declared value
      → Gives seen (IsScopedInitial seen) known (scalar_initialised known fixed type here value)
  scalar-initial type here value h =
      weaker-gives seen (IsOne seen) (IsScopedInitial seen) known _ (λ declared it one. (one.0, one.1 ∙ sym one.2)) (scalar-gives type here value h)

  by-one : (type : CType) (here : ℕ) (expr : Expr) (tree : Tree) → IsScopedIn seen known.declared tree
      → Gives seen (IsScopedInitial seen) known (initialised_by setting known fixed type here expr tree)
  by-one type here expr tree h =
      test-gives seen (IsScopedInitial seen) known (is_scalar type) _ _
      (scalar-initial type here (as_value tree) (value-scoped seen setting known sees tree h))
      (obeys-gives seen (IsScopedInitial seen) known (is_string_for setting expr type) 8 here _ (stays seen (IsScopedInitial seen) known (single tree) sees ((h, tt), refl)))

  zero-gives : (first : First) (here : ℕ) (value : Tree) → IsScopedIn seen known.declared value
      → Gives seen (IsScopedInitial seen) known (zero_initialised known fixed first here value)
  zero-gives first here value h =
      after-gives seen (IsOne seen) (IsScopedInitial seen) known (scalar_initialised known fixed first.kind here value) _ (scalar-gives first.kind here value h)
      (λ behind initial step one. stays seen (IsScopedInitial seen) behind (braced first.depth initial) step.sees (one.0, one.1 ∙ sym (one-in-braces first.depth)))

module _ (setting : Setting) where
  mutual
    unfolding expressions_alone all_expressions_alone

    pub alone-scoped : (seen : ℕ → Bool) (known : Known) (one : Initialiser) → Sees known.declared seen known.scopes
        → Gives seen (AllScoped seen) known (expressions_alone setting known one)
    alone-scoped seen known (tree.value span expr) sees =
        after-gives seen (IsScopedIn seen) (AllScoped seen) known (typed setting true known expr) _ (expr-scoped setting seen true known (expr_span expr) expr sees)
        (λ behind made step h. stays seen (AllScoped seen) behind (as_value made ∷ []) step.sees (value-scoped seen setting behind step.sees made h, tt))
    alone-scoped seen known (tree.braces span items trailing) sees = all-alone seen known items sees

    all-alone : (seen : ℕ → Bool) (known : Known) (all : Initialisers) → Sees known.declared seen known.scopes
        → Gives seen (AllScoped seen) known (all_expressions_alone setting known all)
    all-alone seen known tree.no_initialisers sees = stays seen (AllScoped seen) known [] sees tt
    all-alone seen known (tree.more_initialisers first others) sees =
        after-gives seen (AllScoped seen) (AllScoped seen) known (expressions_alone setting known first) _ (alone-scoped seen known first sees) (λ then_known made step h.
        after-gives seen (AllScoped seen) (AllScoped seen) then_known (all_expressions_alone setting then_known others) _ (all-alone seen then_known others step.sees)
        (λ behind rest more g. stays seen (AllScoped seen) behind (made ++ rest) more.sees
        (every-append (IsScopedIn seen behind.declared) made rest (every-later seen then_known.declared behind.declared made more.grown h) g)))

  misplaced-gives : (seen : ℕ → Bool) (known : Known) (span : Span) (items : Initialisers) → Sees known.declared seen known.scopes
      → Gives seen (IsScopedInitial seen) known (misplaced setting known span items)
  misplaced-gives seen known span items sees =
      after-gives seen (AllScoped seen) (IsScopedInitial seen) known (all_expressions_alone setting known items) _ (all-alone seen known items sees)
      (λ behind trees step h. broken-gives seen (IsScopedInitial seen) behind 8 span.first)

  braces-give : (seen : ℕ → Bool) (fixed : Bool) (known : Known) (type : CType) (span : Span) (items : Initialisers) → Sees known.declared seen known.scopes
      → Gives seen (IsScopedInitial seen) known (scalar_in_braces setting fixed known type span items)
  braces-give seen fixed known type span tree.no_initialisers sees = misplaced-gives seen known span tree.no_initialisers sees
  braces-give seen fixed known type span (tree.more_initialisers (tree.value at expr) tree.no_initialisers) sees =
      after-gives seen (IsScopedIn seen) (IsScopedInitial seen) known (typed setting true known expr) _ (expr-scoped setting seen true known (expr_span expr) expr sees)
      (λ behind made step h. scalar-initial seen setting fixed behind step.sees type at.first (as_value made) (value-scoped seen setting behind step.sees made h))
  braces-give seen fixed known type span items sees = misplaced-gives seen known span items sees

  zeros-give : (seen : ℕ → Bool) (fixed : Bool) (known : Known) (type : CType) (span : Span) (items : Initialisers) → Sees known.declared seen known.scopes
      → Gives seen (IsScopedInitial seen) known (all_zero setting fixed known type span items)
  zeros-give seen fixed known type span tree.no_initialisers sees = misplaced-gives seen known span tree.no_initialisers sees
  zeros-give seen fixed known type span (tree.more_initialisers (tree.value at expr) tree.no_initialisers) sees =
      after-gives seen (IsScopedIn seen) (IsScopedInitial seen) known (typed setting true known expr) _ (expr-scoped setting seen true known (expr_span expr) expr sees)
      (λ behind made step h. if-gives seen (IsScopedInitial seen) behind (first_scalar known.types type) 8 span.first _
      (λ first e. zero-gives seen setting fixed behind step.sees first at.first (as_value made) (value-scoped seen setting behind step.sees made h)))
  zeros-give seen fixed known type span items sees = misplaced-gives seen known span items sees

  part-gives : (seen : ℕ → Bool) (known : Known) (found : Option CType) (surplus : Outcome Initial) (typed_part : CType → Outcome Initial)
      → Gives seen (IsScopedInitial seen) known surplus → ((type : CType) → Gives seen (IsScopedInitial seen) known (typed_part type))
      → Gives seen (IsScopedInitial seen) known (if_part found surplus typed_part)
  part-gives seen known None surplus typed_part h g = h
  part-gives seen known (Some type) surplus typed_part h g = g type

  mutual
    unfolding typed_initialiser typed_initialisers

    pub initialiser-scoped : (seen : ℕ → Bool) (fixed : Bool) (known : Known) (type : CType) (one : Initialiser) → Sees known.declared seen known.scopes
        → Gives seen (IsScopedInitial seen) known (typed_initialiser setting fixed known type one)
    initialiser-scoped seen fixed known type (tree.value span expr) sees =
        after-gives seen (IsScopedIn seen) (IsScopedInitial seen) known (typed setting true known expr) _ (expr-scoped setting seen true known (expr_span expr) expr sees)
        (λ behind made step h. by-one seen setting fixed behind step.sees type span.first expr made h)
    initialiser-scoped seen fixed known type (tree.braces span items trailing) sees =
        test-gives seen (IsScopedInitial seen) known (is_scalar type) _ _ (braces-give seen fixed known type span items sees)
        (test-gives seen (IsScopedInitial seen) known (is_zero_list setting items trailing) _ _ (zeros-give seen fixed known type span items sees)
        (after-gives seen (AreScopedInitials seen) (IsScopedInitial seen) known (typed_initialisers setting fixed known type span 0 items) _
        (initialisers-scoped seen fixed known type span 0 items sees) (λ behind made step h. stays seen (IsScopedInitial seen) behind (enclosed made) step.sees h)))

    initialisers-scoped : (seen : ℕ → Bool) (fixed : Bool) (known : Known) (type : CType) (span : Span) (n : ℕ) (items : Initialisers) → Sees known.declared seen known.scopes
        → Gives seen (AreScopedInitials seen) known (typed_initialisers setting fixed known type span n items)
    initialisers-scoped seen fixed known type span n tree.no_initialisers sees = stays seen (AreScopedInitials seen) known no_initials sees (tt, refl)
    initialisers-scoped seen fixed known type span n (tree.more_initialisers first others) sees =
        after-gives seen (IsScopedInitial seen) (AreScopedInitials seen) known
        (if_part (part_type known.types type n) (misplaced setting known span (tree.more_initialisers first others)) (λ part. typed_initialiser setting fixed known part first)) _
        (part-gives seen known (part_type known.types type n) _ _ (misplaced-gives seen known span (tree.more_initialisers first others) sees)
        (λ part. initialiser-scoped seen fixed known part first sees)) (λ then_known made step h.
        after-gives seen (AreScopedInitials seen) (AreScopedInitials seen) then_known (typed_initialisers setting fixed then_known type span (n + 1) others) _
        (initialisers-scoped seen fixed then_known type span (n + 1) others step.sees)
        (λ behind rest more g. stays seen (AreScopedInitials seen) behind (with_first made rest) more.sees (
          every-append (IsScopedIn seen behind.declared) made.expressions rest.expressions
              (every-later seen then_known.declared behind.declared made.expressions more.grown h.0) g.0,
          length-append made.expressions rest.expressions ∙ ap (λ k. k + length rest.expressions) h.1 ∙ ap (λ k. expressions_in made.form + k) g.1,
        )))
