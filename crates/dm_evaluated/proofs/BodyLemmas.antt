-- In the bodies of a typed unit no expression takes an object for set in an initialiser of that object.
use Rattle.std.specs.Prelude.{◌≡◌, refl, ◌⊎◌, ℕ, ◌==◌, Bool, true, false, not, ◌&&◌, IsTrue, MatchBool, List, [], ◌∷◌, drop, Option, Some, None, slice_get}
use Rattle.std.specs.List.{list_all, list_any}
use Rattle.std.proofs.Common.{ap, sym, ◌∙◌, subst, inl, inr}
use Rattle.std.proofs.lemmas.Bool.{true≢false, false≢true}
use Rattle.dm_token.specs.declared.place.Place.{Place}
use Rattle.dm_token.specs.declared.place.Span.{Span}
use Rattle.dm_type.specs.CTypes.{CType}
use Rattle.dm_type.specs.Tables.{Table}
use Rattle.dm_tree.specs.declared.unit.Sort.{Sort}
use Rattle.dm_tree.specs.declared.unit.Sort.TheVariants.{Object}
use Rattle.dm_tree.specs.Initialisers.{is_same_span}
use Rattle.dm_tree.specs.Scenes.{is_integer, Scene}
use Rattle.dm_tree.specs.Trees.{Label, declare, is_statement, Spans, Tree, Trees, node, no_trees, more_trees, label_of, listed, spans_of}
use Rattle.dm_tree.specs.Typing.{AreWellTyped, file_scene, FormFits, inside, IsWellTyped, IsWellTypedUnit}
use Rattle.dm_tree.specs.Units.{Declaration, External, ExternalForm, declares, defines_function, TypedUnit}
use Rattle.dm_meaning.specs.Among.{IsAmong}
use Rattle.dm_meaning.specs.Programs.{Definition}
use Rattle.dm_meaning.specs.Statements.{is_automatic_declaration, is_automatic_sort, Local, with_expressions}
use Rattle.dm_meaning.specs.Units.{definitions_by, definitions_in, program_of}
use Rattle.dm_meaning.specs.Wholes.{is_expression, are_expressions}
use Rattle.dm_meaning.proofs.AmongLemmas.{among_left, among_right, among_either, among-map_from}
use Rattle.dm_meaning.proofs.GrowLemmas.{equal_is}
use Rattle.dm_meaning.proofs.OptionLemmas.{and_left, and_right}
use Rattle.dm_meaning.proofs.WholeLemmas.{typed-expression}
use Rattle.dm_effect.specs.Entities.{locals_here, locals_of_unit}
use Rattle.dm_effect.specs.Scoped.{is_automatic}
use Rattle.dm_initialised.specs.Units.{given_in_form, has_first_value}
use Rattle.dm_late.specs.Settled.{erased_definition, erased_program, spot}
use Rattle.dm_safe.specs.Spared.{TreeSpares}
use Rattle.dm_settled.specs.Apart.{AllApart, AreApartTrees, IsApartTree, LabelApart, LocalsApart}
use Rattle.dm_settled.proofs.ApartLemmas.{body_spares}
use Rattle.dm_in_place.specs.InPlace.{has_value_at, initialises_by, is_set_at, is_set_entry_at, tokens_of}
use Rattle.dm_in_place.proofs.LocalLemmas.{declared_expressions, external_typed, function_typed, local_there, locals_below, locals_below_all}
use Rattle.dm_in_place.proofs.InsideLemmas.{among_drop, with_one}
use Rattle.dm_in_place.proofs.FoundLemmas.{any_there, same_span, was_false}

module _ (types : Table) (one : TypedUnit) (typed : IsWellTypedUnit types one) where
  abbrev needs : ℕ → Bool
  needs = has_first_value one

  abbrev sets : Tree → ℕ → Bool
  sets = is_set_at one

  -- a declarator of the unit and an expression of its initialiser
  module _ (local : Local) (a : IsAmong local (locals_of_unit one)) (full : Tree) (k : IsAmong full local.expressions) (tree : Tree) (same : (spans_of tree).place ≡ (spot (spans_of full)).place) where
    abbrev d : ℕ
    d = local.declarator.declared

    told : tokens_of tree ≡ (spans_of full).inner
    told = ap (λ (place : Place). record { first = place.byte; after = place.line }) same

    both_true : (p q : Bool) → p ≡ true → q ≡ true → (p && q) ≡ true
    both_true true q e f = f
    both_true false q e f = absurd (false≢true e)

    by : initialises_by (tokens_of tree) d local ≡ true
    by =
        subst (λ (at : Span). initialises_by at d local ≡ true) (sym told)
        (both_true (d == d) (list_any (λ (it : Tree). is_same_span (spans_of it).inner (spans_of full).inner) local.expressions) (equal_is d d refl)
        (any_there (λ (it : Tree). is_same_span (spans_of it).inner (spans_of full).inner) full local.expressions k (same_span (spans_of full).inner)))

    by_sort : is_automatic one.declared d ≡ true → (entry : Declaration) → slice_get one.declared d ≡ Some entry → (sort : Sort) → entry.sort ≡ sort → has_value_at one (tokens_of tree) d sort ≡ true → ⊥
    by_sort automatic entry there (Object true) is e = true≢false (sym automatic ∙ (ap is_automatic_declaration there ∙ ap is_automatic_sort is))
    by_sort automatic entry there (Object false) is e =
        was_false (list_any (initialises_by (tokens_of tree) d) (locals_of_unit one)) (and_right (has_first_value one d) (not (list_any (initialises_by (tokens_of tree) d) (locals_of_unit one))) e)
        (any_there (initialises_by (tokens_of tree) d) local (locals_of_unit one) a by)
    by_sort automatic entry there sort is e = false≢true e

    by_entry : is_automatic one.declared d ≡ true → (o : Option Declaration) → slice_get one.declared d ≡ o → is_set_entry_at one (tokens_of tree) d o ≡ true → ⊥
    by_entry automatic None there e = false≢true e
    by_entry automatic (Some entry) there e = by_sort automatic entry there entry.sort refl (and_right (is_integer entry.kind) (has_value_at one (tokens_of tree) d entry.sort) e)

    not_taken : needs d ≡ true → sets tree d ≡ true → ⊥
    not_taken needed taken =
        by_entry (and_left (is_automatic one.declared d) (list_all (λ (external : External). given_in_form d external.form) one.externals) needed) (slice_get one.declared d) refl taken

  -- ---- declarators

  abbrev AreOfUnit : List Local → Type 0
  AreOfUnit locals = (local : Local) → IsAmong local locals → IsAmong local (locals_of_unit one)

  abbrev AreAllExpressions : List Tree → Type 0
  AreAllExpressions trees = (tree : Tree) → IsAmong tree trees → is_expression tree ≡ true

  no_statement : (tree : Tree) → is_expression tree ≡ true → IsTrue (not (is_statement (label_of tree)))
  no_statement (node label kind spans parts) e = and_left (not (is_statement label)) (are_expressions parts) e

  expressions_apart : (local : Local) → IsAmong local (locals_of_unit one) → (trees : List Tree) → ((tree : Tree) → IsAmong tree trees → IsAmong tree local.expressions) → AreAllExpressions trees
      → AllApart needs sets local.declarator.declared trees
  expressions_apart local a [] sub are = tt
  expressions_apart local a (full ∷ rest) sub are =
      ((no_statement full (are full (inl refl)), λ needed tree taken same. not_taken local a full (sub full (inl refl)) tree same needed taken), expressions_apart local a rest (λ tree k. sub tree (inr k)) (λ tree k. are tree (inr k)))

  locals_apart : (locals : List Local) → AreOfUnit locals → ((local : Local) → IsAmong local locals → AreAllExpressions local.expressions) → LocalsApart needs sets locals
  locals_apart [] here are = tt
  locals_apart (local ∷ rest) here are =
      (expressions_apart local (here local (inl refl)) local.expressions (λ tree k. k) (are local (inl refl)), locals_apart rest (λ it k. here it (inr k)) (λ it k. are it (inr k)))

  listed_one : (trees : Trees) → are_expressions trees ≡ true → AreAllExpressions (listed trees)
  listed_one no_trees e tree a = absurd a
  listed_one (more_trees first rest) e tree (inl same) = ap is_expression same ∙ and_left (is_expression first) (are_expressions rest) e
  listed_one (more_trees first rest) e tree (inr a) = listed_one rest (and_right (is_expression first) (are_expressions rest) e) tree a

  label_apart : (scene : Scene) (label : Label) (kind : CType) (spans : Spans) (parts : Trees) → IsWellTyped scene (node label kind spans parts) → AreOfUnit (locals_here (node label kind spans parts)) → LabelApart needs sets label (listed parts)
  label_apart scene (declare lengths declarators) kind spans parts fits here =
      locals_apart (with_expressions declarators (drop lengths (listed parts))) here
      (λ local a tree k. listed_one parts (declared_expressions scene lengths declarators kind spans parts fits) tree
      (among_drop lengths tree (listed parts) (with_one declarators (drop lengths (listed parts)) local tree a k)))
  label_apart scene label kind spans parts fits here = tt

  -- ---- bodies

  mutual
    tree_apart : (scene : Scene) (tree : Tree) → IsWellTyped scene tree → AreOfUnit (locals_below tree) → IsApartTree needs sets tree
    tree_apart scene (node label kind spans parts) fits here =
        by_label (is_statement label) refl
        (trees_apart (inside scene label (listed parts)) parts fits.1 (λ local a. here local (among_right local (locals_here (node label kind spans parts)) (locals_below_all parts) a)))
      where
        by_label : (b : Bool) → is_statement label ≡ b → AreApartTrees needs sets parts → MatchBool b (LabelApart needs sets label (listed parts) × AreApartTrees needs sets parts) (IsTrue (are_expressions parts))
        by_label true e below =
            (label_apart scene label kind spans parts fits (λ local a. here local (among_left local (locals_here (node label kind spans parts)) (locals_below_all parts) a)), below)
        by_label false e below = and_right (not (is_statement label)) (are_expressions parts) (typed-expression scene (node label kind spans parts) fits (ap not e))

    trees_apart : (scene : Scene) (trees : Trees) → AreWellTyped scene trees → AreOfUnit (locals_below_all trees) → AreApartTrees needs sets trees
    trees_apart scene no_trees fits here = tt
    trees_apart scene (more_trees first rest) fits here = (
      tree_apart scene first fits.0 (λ local a. here local (among_left local (locals_below first) (locals_below_all rest) a)),
      trees_apart scene rest fits.1 (λ local a. here local (among_right local (locals_below first) (locals_below_all rest) a)),
    )

  form_apart : (external : External) → IsAmong external one.externals → (form : ExternalForm) → external.form ≡ form → (definition : Definition) → IsAmong definition (definitions_by form) → IsApartTree needs sets definition.body
  form_apart external there (declares declarators trees) e definition a = absurd a
  form_apart external there (defines_function f parameters body) e definition (inl same) =
      let fits = subst (λ form. FormFits (file_scene types one.declared) form) e (external_typed types one typed external there).2 in
      let inner = function_typed (file_scene types one.declared) parameters body (slice_get one.declared f) fits.0 fits.1 in
      subst (λ (it : Definition). IsApartTree needs sets it.body) (sym same) (tree_apart inner.0 body inner.1 (local_there types one typed external f parameters body there e))
  form_apart external there (defines_function f parameters body) e definition (inr a) = absurd a

  all_apart : (externals : List External) → ((external : External) → IsAmong external externals → IsAmong external one.externals) → (definition : Definition) → IsAmong definition (definitions_in externals)
      → IsApartTree needs sets definition.body
  all_apart [] sub definition a = absurd a
  all_apart (external ∷ rest) sub definition a = pick (among_either definition (definitions_by external.form) (definitions_in rest) a) (all_apart rest (λ it k. sub it (inr k)) definition)
    where
      pick : IsAmong definition (definitions_by external.form) ⊎ IsAmong definition (definitions_in rest) → (IsAmong definition (definitions_in rest) → IsApartTree needs sets definition.body) → IsApartTree needs sets definition.body
      pick (inl k) later = form_apart external (sub external (inl refl)) external.form refl definition k
      pick (inr k) later = later k

  pub bodies_spare : (definition : Definition) → IsAmong definition (erased_program (program_of types one)).functions → TreeSpares needs sets definition.body
  bodies_spare definition a =
      let from = among-map_from erased_definition definition (definitions_in one.externals) a in
      subst (λ (it : Definition). TreeSpares needs sets it.body) (sym from.2) (body_spares needs sets from.0.body (all_apart one.externals (λ external k. k) from.0 from.1))
