-- The typing of initialisers gives the same where types have other numbers.
use Rattle.std.specs.Prelude.{◌≡◌, ℕ, zero, suc, ◌+◌, Bool, true, false, ◌&&◌, ◌||◌, not, if◌then◌else◌, List, [], ◌∷◌, length, Option, Some, None, is_some, option_map, option_and_then, nat_lt, refl}
use Rattle.std.proofs.Common.{sym, ap, ap₂, ◌∙◌, subst}
use Rattle.std.proofs.lemmas.List.{length-map}
use Rattle.dm_token.specs.declared.place.Span.{Span}
use Rattle.dm_int.specs.declared.Op.TheVariants as o
use Rattle.dm_type.specs.declared.shape.Shape.{Shape}
use Rattle.dm_type.specs.declared.shape.Struct.{Struct}
use Rattle.dm_type.specs.CTypes.{CType, void, integer, pointer, array as array_type, struct as struct_type, function as function_type, const}
use Rattle.dm_syn.specs.Trees.{Expr, Initialiser, Initialisers}
use Rattle.dm_syn.specs.Trees as tree
use Rattle.dm_syn.specs.Spans.{expr_span}
use Rattle.dm_tree.specs.Constants.{is_constant_form}
use Rattle.dm_tree.specs.Initialisers.{Reach, nowhere, start, element_address, subscripted, reach_at, reach, reaches}
use Rattle.dm_tree.specs.Trees.{Label, Spans, Tree, Trees, node, no_trees, more_trees, kind_of, listed}
use Rattle.dm_tree.specs.Trees as label
use Rattle.dm_tree.specs.Scenes.{is_scalar, part_type}
use Rattle.dm_typing.specs.Known.{Known, Setting, Outcome, given, obeys}
use Rattle.dm_typing.specs.Conversions.{as_value}
use Rattle.dm_typing.specs.Sound.{scene_of}
use Rattle.dm_typing.specs.Typing.{typed}
use Rattle.dm_edecl.specs.Initialising.{single, comma_at, has_comma, have_commas, values_in, is_constant_expression, is_place, is_start, is_address_constant, is_static_value, has_value, scalar_initialised, is_string_for, initialised_by, First, deeper, first_if_scalar, first_in_array, first_in_struct, first_within, first_scalar, zero_initialised, expressions_alone, all_expressions_alone, misplaced, scalar_in_braces, is_zero_list, all_zero, if_part, typed_initialiser, typed_initialisers}
use Rattle.dm_outcome.proofs.Renumbered.{Renumbers, moved, moved_struct, table_at, at_one, at_other}
use Rattle.dm_outcome.proofs.TableLemmas.{and-then-same, constant-value-same, part-same}
use Rattle.dm_outcome.proofs.RuleLemmas.{constant-of-same, null-same, assignable-same}
use Rattle.dm_outcome.proofs.ExpressionLemmas.{Both, gives, breaks, after-both, obeys-both, if-both, expr-both}

module _ (one other : List Shape) (number : ℕ → ℕ) (re : Renumbers one other number) where
  -- ---- static storage

  module _ (known : Known) where
    abbrev here : Known
    here = at_one one known

    abbrev again : Known
    again = at_other other number known

    values-same : (parts : Trees) → values_in again parts ≡ values_in here parts
    values-same no_trees = refl
    values-same (more_trees first rest) = ap₂ (λ x xs. x ∷ xs) (constant-value-same one other number re known.types.structs known.declared first) (values-same rest)

    mutual
      comma-same : (it : Tree) → has_comma again it ≡ has_comma here it
      comma-same (node form kind spans parts) = ap₂ (comma_at form) (values-same parts) (commas-same parts)

      commas-same : (parts : Trees) → have_commas again parts ≡ have_commas here parts
      commas-same no_trees = refl
      commas-same (more_trees first rest) = ap₂ (λ x xs. x ∷ xs) (comma-same first) (commas-same rest)

    constant-expression-same : (it : Tree) → is_constant_expression again it ≡ is_constant_expression here it
    constant-expression-same it = ap (λ comma. is_constant_form it && not comma) (comma-same it)

    subscripted-same : (it : Tree) → subscripted (scene_of again) it ≡ subscripted (scene_of here) it
    subscripted-same it = ap (λ value. if is_some value then element_address else nowhere) (constant-of-same one other number re known it)

    reach-at-same : (form : Label) (spans : Spans) (parts : List Tree) (inner : List Reach) → reach_at (scene_of again) form spans parts inner ≡ reach_at (scene_of here) form spans parts inner
    reach-at-same (label.binary o.Add) spans (left ∷ right ∷ []) (start ∷ rest) = subscripted-same right
    reach-at-same (label.binary o.Add) spans (left ∷ right ∷ []) (first ∷ start ∷ rest) = subscripted-same left
    reach-at-same form spans parts inner = refl

    mutual
      reach-same : (it : Tree) → reach (scene_of again) it ≡ reach (scene_of here) it
      reach-same (node form kind spans parts) =
          ap (reach_at (scene_of again) form spans (listed parts)) (reaches-same parts) ∙ reach-at-same form spans (listed parts) (reaches (scene_of here) parts)

      reaches-same : (parts : Trees) → reaches (scene_of again) parts ≡ reaches (scene_of here) parts
      reaches-same no_trees = refl
      reaches-same (more_trees first rest) = ap₂ (λ x xs. x ∷ xs) (reach-same first) (reaches-same rest)

    address-same : (it : Tree) → is_address_constant again it ≡ is_address_constant here it
    address-same (node label.address kind spans (more_trees operand no_trees)) = ap is_place (reach-same operand)
    address-same it = ap is_start (reach-same it)

    static-same : (it : Tree) → is_static_value again it ≡ is_static_value here it
    static-same it =
        ap₂ (λ x y. x || y) (ap₂ (λ x y. x || y) (constant-expression-same it) (null-same one other number re known it)) (address-same it)

    has-value-same : (it : Tree) → has_value again it ≡ has_value here it
    has-value-same it = ap₂ (λ x value. not x || is_some value) (constant-expression-same it) (constant-of-same one other number re known it)

    -- ---- one expression

    scalar-both : (fixed : Bool) (type : CType) (at : ℕ) (value : Tree) → Both one other number (scalar_initialised here fixed type at value) (scalar_initialised again fixed type at value)
    scalar-both fixed type at value =
        obeys-both one other number _ _ 8 at _ _ (ap (λ test. not fixed || test) (static-same value))
        (obeys-both one other number _ _ 28 at _ _ (assignable-same one other number re known value type)
        (obeys-both one other number _ _ 30 at _ _ (ap (λ test. not fixed || test) (has-value-same value)) (gives known _)))

    by-both : (setting : Setting) (fixed : Bool) (type : CType) (at : ℕ) (expr : Expr) (made : Tree)
        → Both one other number (initialised_by setting here fixed type at expr made) (initialised_by setting again fixed type at expr made)
    by-both setting fixed type at expr made = go (is_scalar type)
      where
        go : (test : Bool) → Both one other number (if test then scalar_initialised here fixed type at (as_value made) else obeys (is_string_for setting expr type) 8 at (given here (single made)))
            (if test then scalar_initialised again fixed type at (as_value made) else obeys (is_string_for setting expr type) 8 at (given again (single made)))
        go true = scalar-both fixed type at (as_value made)
        go false = obeys-both one other number (is_string_for setting expr type) _ 8 at _ _ refl (gives known _)

    zero-both : (fixed : Bool) (first : First) (at : ℕ) (value : Tree) → Both one other number (zero_initialised here fixed first at value) (zero_initialised again fixed first at value)
    zero-both fixed first at value =
        after-both one other number (scalar_initialised here fixed first.kind at value) _ _ _ (scalar-both fixed first.kind at value) (λ behind initial. gives behind _)

  -- ---- `{0}`

  module _ (structs : List Struct) where
    in-array-same : (inner more : CType → Option First) → ((type : CType) → more type ≡ inner type) → (type : CType) → first_in_array more type ≡ first_in_array inner type
    in-array-same inner more same (array_type type (Some n)) = ap (λ found. if nat_lt 0 n then option_map deeper found else None) (in-array-same inner more same type)
    in-array-same inner more same (array_type type None) = same (array_type type None)
    in-array-same inner more same void = same void
    in-array-same inner more same (integer kind) = same (integer kind)
    in-array-same inner more same (pointer type) = same (pointer type)
    in-array-same inner more same (struct_type n) = same (struct_type n)
    in-array-same inner more same (function_type result parameters) = same (function_type result parameters)
    in-array-same inner more same (const type) = same (const type)

    in-struct-same : (inner more : CType → Option First) → ((type : CType) → more type ≡ inner type) → (type : CType)
        → first_in_struct more (table_at other (moved number structs)) type ≡ first_in_struct inner (table_at one structs) type
    in-struct-same inner more same type =
        ap (λ found. if is_scalar type then first_if_scalar type else option_map deeper found)
        (ap (option_and_then more) (part-same one other number re structs type 0) ∙ and-then-same (part_type (table_at one structs) type 0) more inner same)

    within-same : (depth : ℕ) (type : CType) → first_within depth (table_at other (moved number structs)) type ≡ first_within depth (table_at one structs) type
    unfolding first_within
    within-same zero type = refl
    within-same (suc depth) type =
        in-array-same _ _
        (in-struct-same (first_within depth (table_at one structs)) (first_within depth (table_at other (moved number structs))) (within-same depth)) type

    first-same : (type : CType) → first_scalar (table_at other (moved number structs)) type ≡ first_scalar (table_at one structs) type
    first-same type = ap (λ depth. first_within depth (table_at other (moved number structs)) type) (length-map structs (moved_struct number)) ∙ within-same (length structs) type

  -- ---- the syntax

  module _ (setting : Setting) where
    abbrev by_one : Known → Known
    by_one known = at_one one known

    abbrev by_other : Known → Known
    by_other known = at_other other number known

    pub typed-both : (known : Known) (expr : Expr) → Both one other number (typed setting true (by_one known) expr) (typed setting true (by_other known) expr)
    typed-both known expr = expr-both one other number re setting true known (expr_span expr) expr

    mutual
      unfolding expressions_alone all_expressions_alone

      pub alone-both : (known : Known) (it : Initialiser) → Both one other number (expressions_alone setting (by_one known) it) (expressions_alone setting (by_other known) it)
      alone-both known (tree.value span expr) = after-both one other number (typed setting true (by_one known) expr) _ _ _ (typed-both known expr) (λ behind made. gives behind _)
      alone-both known (tree.braces span items trailing) = all-alone-both known items

      all-alone-both : (known : Known) (items : Initialisers) → Both one other number (all_expressions_alone setting (by_one known) items) (all_expressions_alone setting (by_other known) items)
      all-alone-both known tree.no_initialisers = gives known _
      all-alone-both known (tree.more_initialisers first others) =
          after-both one other number (expressions_alone setting (by_one known) first) _ _ _ (alone-both known first) (λ then_known made.
          after-both one other number (all_expressions_alone setting (by_one then_known) others) _ _ _ (all-alone-both then_known others) (λ behind more. gives behind _))

    misplaced-both : (known : Known) (span : Span) (items : Initialisers) → Both one other number (misplaced setting (by_one known) span items) (misplaced setting (by_other known) span items)
    misplaced-both known span items =
        after-both one other number (all_expressions_alone setting (by_one known) items) _ _ _ (all-alone-both known items) (λ behind trees. breaks 8 span.first)

    braces-both : (fixed : Bool) (known : Known) (type : CType) (span : Span) (items : Initialisers)
        → Both one other number (scalar_in_braces setting fixed (by_one known) type span items) (scalar_in_braces setting fixed (by_other known) type span items)
    braces-both fixed known type span (tree.more_initialisers (tree.value at expr) tree.no_initialisers) =
        after-both one other number (typed setting true (by_one known) expr) _ _ _ (typed-both known expr) (λ behind made. scalar-both behind fixed type at.first (as_value made))
    braces-both fixed known type span (tree.more_initialisers (tree.value at expr) (tree.more_initialisers first others)) = misplaced-both known span _
    braces-both fixed known type span (tree.more_initialisers (tree.braces at items inner) others) = misplaced-both known span _
    braces-both fixed known type span tree.no_initialisers = misplaced-both known span _

    all-zero-both : (fixed : Bool) (known : Known) (type : CType) (span : Span) (items : Initialisers)
        → Both one other number (all_zero setting fixed (by_one known) type span items) (all_zero setting fixed (by_other known) type span items)
    all-zero-both fixed known type span (tree.more_initialisers (tree.value at expr) tree.no_initialisers) =
        after-both one other number (typed setting true (by_one known) expr) _ _ _ (typed-both known expr) (λ behind made.
        if-both one other number _ _ 8 span.first _ _ (first-same known.types.structs type) (λ first. zero-both behind fixed first at.first (as_value made)))
    all-zero-both fixed known type span (tree.more_initialisers (tree.value at expr) (tree.more_initialisers first others)) = misplaced-both known span _
    all-zero-both fixed known type span (tree.more_initialisers (tree.braces at items inner) others) = misplaced-both known span _
    all-zero-both fixed known type span tree.no_initialisers = misplaced-both known span _

    if-test : {A : Type 0} (test : Bool) (x y z w : Outcome A) → Both one other number x y → Both one other number z w → Both one other number (if test then x else z) (if test then y else w)
    if-test true x y z w h k = h
    if-test false x y z w h k = k

    part-both : {A : Type 0} (first second : Option CType) (surplus more : Outcome A) (next then_next : CType → Outcome A) → second ≡ first → Both one other number surplus more
        → ((type : CType) → Both one other number (next type) (then_next type)) → Both one other number (if_part first surplus next) (if_part second more then_next)
    part-both first second surplus more next then_next e h k =
        subst (λ found. Both one other number (if_part first surplus next) (if_part found more then_next)) (sym e) (go first)
      where
        go : (found : Option CType) → Both one other number (if_part found surplus next) (if_part found more then_next)
        go None = h
        go (Some type) = k type

    mutual
      unfolding typed_initialiser typed_initialisers

      pub initialiser-both : (fixed : Bool) (known : Known) (type : CType) (it : Initialiser)
          → Both one other number (typed_initialiser setting fixed (by_one known) type it) (typed_initialiser setting fixed (by_other known) type it)
      initialiser-both fixed known type (tree.value span expr) =
          after-both one other number (typed setting true (by_one known) expr) _ _ _ (typed-both known expr) (λ behind made. by-both behind setting fixed type span.first expr made)
      initialiser-both fixed known type (tree.braces span items trailing) =
          if-test (is_scalar type) _ _ _ _ (braces-both fixed known type span items)
          (if-test (is_zero_list setting items trailing) _ _ _ _ (all-zero-both fixed known type span items)
          (after-both one other number (typed_initialisers setting fixed (by_one known) type span 0 items) _ _ _ (initialisers-both fixed known type span 0 items) (λ behind made. gives behind _)))

      initialisers-both : (fixed : Bool) (known : Known) (type : CType) (span : Span) (n : ℕ) (items : Initialisers)
          → Both one other number (typed_initialisers setting fixed (by_one known) type span n items) (typed_initialisers setting fixed (by_other known) type span n items)
      initialisers-both fixed known type span n tree.no_initialisers = gives known _
      initialisers-both fixed known type span n (tree.more_initialisers first others) =
          after-both one other number
          (if_part (part_type (by_one known).types type n) (misplaced setting (by_one known) span (tree.more_initialisers first others)) (λ part. typed_initialiser setting fixed (by_one known) part first))
          (if_part (part_type (by_other known).types type n) (misplaced setting (by_other known) span (tree.more_initialisers first others)) (λ part. typed_initialiser setting fixed (by_other known) part first)) _ _
          (part-both (part_type (by_one known).types type n) (part_type (by_other known).types type n) _ _ _ _ (part-same one other number re known.types.structs type n)
          (misplaced-both known span (tree.more_initialisers first others)) (λ part. initialiser-both fixed known part first))
          (λ then_known made.
          after-both one other number (typed_initialisers setting fixed (by_one then_known) type span (n + 1) others) _ _ _ (initialisers-both fixed then_known type span (n + 1) others)
          (λ behind more. gives behind _))
