-- What the typing of initialisers leaves as it is, as that of their expressions does.
use Rattle.std.specs.Prelude.{ℕ, ◌+◌, Bool, true, false, ◌||◌, not, if◌then◌else◌, [], ◌∷◌, ◌++◌, Option, Some, None, refl}
use Rattle.std.proofs.Common.{◌∙◌}
use Rattle.dm_token.specs.declared.place.Span.{Span}
use Rattle.dm_type.specs.CTypes.{CType}
use Rattle.dm_syn.specs.Spans.{expr_span}
use Rattle.dm_syn.specs.Trees.{Expr, Initialiser, Initialisers}
use Rattle.dm_syn.specs.Trees as tree
use Rattle.dm_tree.specs.Scenes.{is_scalar, part_type}
use Rattle.dm_tree.specs.Trees.{Tree}
use Rattle.dm_typing.specs.Known.{Known, Setting, Outcome, broken}
use Rattle.dm_typing.specs.Conversions.{as_value}
use Rattle.dm_typing.specs.Rules.{is_assignable}
use Rattle.dm_typing.specs.Typing.{typed}
use Rattle.dm_eexpr.proofs.KeepLemmas.{Keeps, KeepsIn, Leads, SameTrees, keeps-itself, adds-on, after-leads, obeys-leads, if-leads, stays, expr-keeps, expr-trees}
use Rattle.dm_edecl.specs.Initialising.{no_initials, with_first, enclosed, First, braced, is_static_value, scalar_initialised, has_value, initialised_by, is_string_for, first_scalar, zero_initialised, expressions_alone, all_expressions_alone, misplaced, scalar_in_braces, is_zero_list, all_zero, if_part, typed_initialiser, typed_initialisers}

module _ (R : Known → Known → Type 0) where
  either-leads : {A : Type 0} (known : Known) (test : Bool) (one other : Outcome A) → Leads R known one → Leads R known other → Leads R known (if test then one else other)
  either-leads known true one other h g = h
  either-leads known false one other h g = g

  part-leads : {A : Type 0} (known : Known) (found : Option CType) (surplus : Outcome A) (typed_part : CType → Outcome A) → Leads R known surplus
      → ((type : CType) → Leads R known (typed_part type)) → Leads R known (if_part found surplus typed_part)
  part-leads known (Some type) surplus typed_part h g = g type
  part-leads known None surplus typed_part h g = h

module _ (setting : Setting) (R : Known → Known → Type 0) (itself : (known : Known) → R known known) (on : (a b c : Known) → R a b → R b c → R a c)
    (expr-leads : (known : Known) (expr : Expr) → Leads R known (typed setting true known expr)) where
  scalar-leads : (known : Known) (fixed : Bool) (type : CType) (here : ℕ) (value : Tree) → Leads R known (scalar_initialised known fixed type here value)
  scalar-leads known fixed type here value =
      obeys-leads R known (not fixed || is_static_value known value) 8 here _
      (obeys-leads R known (is_assignable known value type) 28 here _
      (obeys-leads R known (not fixed || has_value known value) 30 here _ (stays R known _ (itself known))))

  by-leads : (known : Known) (fixed : Bool) (type : CType) (here : ℕ) (expr : Expr) (made : Tree) → Leads R known (initialised_by setting known fixed type here expr made)
  by-leads known fixed type here expr made =
      either-leads R known (is_scalar type) _ _ (scalar-leads known fixed type here (as_value made))
      (obeys-leads R known (is_string_for setting expr type) 8 here _ (stays R known _ (itself known)))

  zero-leads : (known : Known) (fixed : Bool) (first : First) (here : ℕ) (value : Tree) → Leads R known (zero_initialised known fixed first here value)
  zero-leads known fixed first here value =
      after-leads R itself on known (scalar_initialised known fixed first.kind here value) _ (scalar-leads known fixed first.kind here value)
      (λ behind initial. stays R behind (braced first.depth initial) (itself behind))

  mutual
    unfolding expressions_alone all_expressions_alone

    pub alone-leads : (known : Known) (one : Initialiser) → Leads R known (expressions_alone setting known one)
    alone-leads known (tree.value span expr) =
        after-leads R itself on known (typed setting true known expr) _ (expr-leads known expr) (λ behind made. stays R behind (as_value made ∷ []) (itself behind))
    alone-leads known (tree.braces span items trailing) = all-alone-leads known items

    all-alone-leads : (known : Known) (items : Initialisers) → Leads R known (all_expressions_alone setting known items)
    all-alone-leads known tree.no_initialisers = stays R known [] (itself known)
    all-alone-leads known (tree.more_initialisers first others) =
        after-leads R itself on known (expressions_alone setting known first) _ (alone-leads known first) (λ then_known made.
        after-leads R itself on then_known (all_expressions_alone setting then_known others) _ (all-alone-leads then_known others)
        (λ behind more. stays R behind (made ++ more) (itself behind)))

  misplaced-leads : (known : Known) (span : Span) (items : Initialisers) → Leads R known (misplaced setting known span items)
  misplaced-leads known span items =
      after-leads R itself on known (all_expressions_alone setting known items) (λ behind trees. broken 8 span.first) (all-alone-leads known items) (λ behind trees. record { leads = tt })

  in-braces-leads : (fixed : Bool) (known : Known) (type : CType) (span : Span) (items : Initialisers) → Leads R known (scalar_in_braces setting fixed known type span items)
  in-braces-leads fixed known type span tree.no_initialisers = misplaced-leads known span tree.no_initialisers
  in-braces-leads fixed known type span (tree.more_initialisers (tree.value at expr) tree.no_initialisers) =
      after-leads R itself on known (typed setting true known expr) _ (expr-leads known expr) (λ behind made. scalar-leads behind fixed type at.first (as_value made))
  in-braces-leads fixed known type span (tree.more_initialisers (tree.value at expr) (tree.more_initialisers second others)) =
      misplaced-leads known span (tree.more_initialisers (tree.value at expr) (tree.more_initialisers second others))
  in-braces-leads fixed known type span (tree.more_initialisers (tree.braces at items trailing) others) =
      misplaced-leads known span (tree.more_initialisers (tree.braces at items trailing) others)

  all-zero-leads : (fixed : Bool) (known : Known) (type : CType) (span : Span) (items : Initialisers) → Leads R known (all_zero setting fixed known type span items)
  all-zero-leads fixed known type span tree.no_initialisers = misplaced-leads known span tree.no_initialisers
  all-zero-leads fixed known type span (tree.more_initialisers (tree.value at expr) tree.no_initialisers) =
      after-leads R itself on known (typed setting true known expr) _ (expr-leads known expr) (λ behind made.
      if-leads R behind (first_scalar known.types type) 8 span.first _ (λ first. zero-leads behind fixed first at.first (as_value made)))
  all-zero-leads fixed known type span (tree.more_initialisers (tree.value at expr) (tree.more_initialisers second others)) =
      misplaced-leads known span (tree.more_initialisers (tree.value at expr) (tree.more_initialisers second others))
  all-zero-leads fixed known type span (tree.more_initialisers (tree.braces at items trailing) others) =
      misplaced-leads known span (tree.more_initialisers (tree.braces at items trailing) others)

  mutual
    unfolding typed_initialiser typed_initialisers

    pub initialiser-leads : (fixed : Bool) (known : Known) (type : CType) (one : Initialiser) → Leads R known (typed_initialiser setting fixed known type one)
    initialiser-leads fixed known type (tree.value span expr) =
        after-leads R itself on known (typed setting true known expr) _ (expr-leads known expr) (λ behind made. by-leads behind fixed type span.first expr made)
    initialiser-leads fixed known type (tree.braces span items trailing) =
        either-leads R known (is_scalar type) _ _ (in-braces-leads fixed known type span items)
        (either-leads R known (is_zero_list setting items trailing) _ _ (all-zero-leads fixed known type span items)
        (after-leads R itself on known (typed_initialisers setting fixed known type span 0 items) _ (initialisers-lead fixed known type span 0 items)
        (λ behind made. stays R behind (enclosed made) (itself behind))))

    initialisers-lead : (fixed : Bool) (known : Known) (type : CType) (span : Span) (n : ℕ) (items : Initialisers) → Leads R known (typed_initialisers setting fixed known type span n items)
    initialisers-lead fixed known type span n tree.no_initialisers = stays R known no_initials (itself known)
    initialisers-lead fixed known type span n (tree.more_initialisers first others) =
        after-leads R itself on known
        (if_part (part_type known.types type n) (misplaced setting known span (tree.more_initialisers first others)) (λ part. typed_initialiser setting fixed known part first)) _
        (part-leads R known (part_type known.types type n) (misplaced setting known span (tree.more_initialisers first others)) (λ part. typed_initialiser setting fixed known part first)
        (misplaced-leads known span (tree.more_initialisers first others)) (λ part. initialiser-leads fixed known part first))
        (λ then_known made. after-leads R itself on then_known (typed_initialisers setting fixed then_known type span (n + 1) others) _
        (initialisers-lead fixed then_known type span (n + 1) others) (λ behind more. stays R behind (with_first made more) (itself behind)))

-- ---- the scopes and declarations, and the trees of type names

module _ (setting : Setting) where
  pub alone-keeps : (known : Known) (one : Initialiser) → KeepsIn known (expressions_alone setting known one)
  alone-keeps = alone-leads setting Keeps keeps-itself (λ a b c first second. record { adds = adds-on a b c first.adds second.adds; begun = second.begun ∙ first.begun }) (λ known expr. expr-keeps setting true known (expr_span expr) expr)

  pub alone-trees : (known : Known) (one : Initialiser) → Leads SameTrees known (expressions_alone setting known one)
  alone-trees = alone-leads setting SameTrees (λ known. refl) (λ a b c first second. second ∙ first) (λ known expr. expr-trees setting true known (expr_span expr) expr)

  pub initialiser-keeps : (fixed : Bool) (known : Known) (type : CType) (one : Initialiser) → KeepsIn known (typed_initialiser setting fixed known type one)
  initialiser-keeps = initialiser-leads setting Keeps keeps-itself (λ a b c first second. record { adds = adds-on a b c first.adds second.adds; begun = second.begun ∙ first.begun }) (λ known expr. expr-keeps setting true known (expr_span expr) expr)

  pub initialiser-trees : (fixed : Bool) (known : Known) (type : CType) (one : Initialiser) → Leads SameTrees known (typed_initialiser setting fixed known type one)
  initialiser-trees = initialiser-leads setting SameTrees (λ known. refl) (λ a b c first second. second ∙ first) (λ known expr. expr-trees setting true known (expr_span expr) expr)
