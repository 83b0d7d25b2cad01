-- Constant expressions in two programs of which one reads an added const object: those that don't read it, but in operands of sizeof, have the same
-- values in both.
use Rattle.std.specs.Prelude.{◌≡◌, refl, ℕ, Bool, List, [], ◌∷◌, Option, Some, None, option_map, option_and_then, slice_get, ℤ, if◌then◌else◌}
use Rattle.std.proofs.Common.{ap, sym, ◌∙◌, inl, inr}
use Rattle.dm_type.specs.CTypes.{CType}
use Rattle.dm_tree.specs.declared.unit.Sort.{Sort}
use Rattle.dm_tree.specs.Constants.{is_constant_form, constant_forms, has_constant_form, kinds_in, constant_value, constant_values, value_at, value_if_enumerator, enumerator_value}
use Rattle.dm_tree.specs.Trees.{Label, enumerator, sizeof_tree, Tree, Trees, node, no_trees, more_trees, kind_of}
use Rattle.dm_tree.specs.Units.{Declaration}
use Rattle.dm_meaning.specs.Programs.{declaration_of, constant_of}
use Rattle.dm_meaning.specs.Replaced.{relabelled, facts_of}
use Rattle.dm_rewrite.specs.NamedConstants.{Named, new_of, Agrees, AllAgree, IfSizeof, IsRenamed, AreRenamed}

enumerator_fact : Option (List ℕ × Sort × CType) → Option ℤ
enumerator_fact None = None
enumerator_fact (Some facts) = value_if_enumerator facts.1

enumerator_is : (o : Option Declaration) → option_and_then (λ (entry : Declaration). value_if_enumerator entry.sort) o ≡ enumerator_fact (option_map facts_of o)
unfolding enumerator_fact
enumerator_is None = refl
enumerator_is (Some declaration) = refl

module _ (change : Named) (told : (d : ℕ) → option_map facts_of (declaration_of (new_of change) (change.rename d)) ≡ option_map facts_of (declaration_of change.old d)) where
  same_value : (d : ℕ) → enumerator_value change.declared (change.rename d) ≡ enumerator_value change.old.declared d
  same_value d = enumerator_is (slice_get change.declared (change.rename d)) ∙ ap enumerator_fact (told d) ∙ sym (enumerator_is (slice_get change.old.declared d))

  agreeing_kind : (tree other : Tree) → Agrees change tree other → kind_of tree ≡ kind_of other
  agreeing_kind (node label kind spans parts) other (inl h) = h.1
  agreeing_kind (node label kind spans parts) other (inr h) = h.typed ∙ sym h.constant.kind

  agreeing_kinds : (trees others : Trees) → AllAgree change trees others → kinds_in trees ≡ kinds_in others
  agreeing_kinds no_trees no_trees h = refl
  agreeing_kinds no_trees (more_trees other others) h = absurd h
  agreeing_kinds (more_trees first rest) no_trees h = absurd h
  agreeing_kinds (more_trees first rest) (more_trees other others) h =
      ap (λ k. k ∷ kinds_in rest) (agreeing_kind first other h.0) ∙ ap (λ l. kind_of other ∷ l) (agreeing_kinds rest others h.1)

  pub renamed_kind : (tree other : Tree) → IsRenamed change tree other → kind_of tree ≡ kind_of other
  renamed_kind (node label kind spans parts) other h = h.1

  renamed_kinds : (trees others : Trees) → AreRenamed change trees others → kinds_in trees ≡ kinds_in others
  renamed_kinds no_trees no_trees h = refl
  renamed_kinds no_trees (more_trees other others) h = absurd h
  renamed_kinds (more_trees first rest) no_trees h = absurd h
  renamed_kinds (more_trees first rest) (more_trees other others) h =
      ap (λ k. k ∷ kinds_in rest) (renamed_kind first other h.0) ∙ ap (λ l. kind_of other ∷ l) (renamed_kinds rest others h.1)

  form_label : (label : Label) (kind : CType) (passes others : List Bool) (A B : Type 0) → IfSizeof label A B → (B → passes ≡ others)
      → has_constant_form (relabelled change.rename label) kind passes ≡ has_constant_form label kind others
  form_label sizeof_tree kind passes others A B h same = refl
  form_label (enumerator d) kind passes others A B h same = refl
  form_label label kind passes others A B h same = ap (has_constant_form label kind) (same h)

  mutual
    renamed_form : (tree other : Tree) → IsRenamed change tree other → is_constant_form tree ≡ is_constant_form other
    renamed_form (node label kind spans parts) (node other other_kind other_spans others) h =
        ap (λ l. has_constant_form l kind (constant_forms parts)) h.0
        ∙ ap (λ k. has_constant_form (relabelled change.rename other) k (constant_forms parts)) h.1
        ∙ form_label other other_kind (constant_forms parts) (constant_forms others) _ _ h.2 (λ k. renamed_forms parts others k)

    renamed_forms : (trees others : Trees) → AreRenamed change trees others → constant_forms trees ≡ constant_forms others
    renamed_forms no_trees no_trees h = refl
    renamed_forms no_trees (more_trees other others) h = absurd h
    renamed_forms (more_trees first rest) no_trees h = absurd h
    renamed_forms (more_trees first rest) (more_trees other others) h =
        ap (λ b. b ∷ constant_forms rest) (renamed_form first other h.0) ∙ ap (λ l. is_constant_form other ∷ l) (renamed_forms rest others h.1)

  size_at : (declared : List Declaration) (kind : CType) (kinds : List CType) (values others : List (Option ℤ))
      → value_at change.old.table declared sizeof_tree kind kinds values ≡ value_at change.old.table change.old.declared sizeof_tree kind kinds others
  size_at declared kind [] values others = refl
  size_at declared kind (x ∷ []) values others = refl
  size_at declared kind (x ∷ y ∷ rest) values others = refl

  value_label : (label : Label) (kind : CType) (kinds other_kinds : List CType) (values others : List (Option ℤ)) (A B : Type 0) → IfSizeof label A B
      → (A → kinds ≡ other_kinds) → (B → kinds ≡ other_kinds) → (B → values ≡ others)
      → value_at change.old.table change.declared (relabelled change.rename label) kind kinds values ≡ value_at change.old.table change.old.declared label kind other_kinds others
  value_label sizeof_tree kind kinds other_kinds values others A B h a b c =
      ap (λ ks. value_at change.old.table change.declared sizeof_tree kind ks values) (a h) ∙ size_at change.declared kind other_kinds values others
  value_label (enumerator d) kind kinds other_kinds values others A B h a b c = same_value d
  value_label label kind kinds other_kinds values others A B h a b c =
      ap (λ ks. value_at change.old.table change.declared label kind ks values) (b h) ∙ ap (value_at change.old.table change.declared label kind other_kinds) (c h)

  mutual
    renamed_value : (tree other : Tree) → IsRenamed change tree other → constant_value change.old.table change.declared tree ≡ constant_value change.old.table change.old.declared other
    renamed_value (node label kind spans parts) (node other other_kind other_spans others) h =
        ap (λ l. value_at change.old.table change.declared l kind (kinds_in parts) (constant_values change.old.table change.declared parts)) h.0
        ∙ ap (λ k. value_at change.old.table change.declared (relabelled change.rename other) k (kinds_in parts) (constant_values change.old.table change.declared parts)) h.1
        ∙ value_label other other_kind (kinds_in parts) (kinds_in others) (constant_values change.old.table change.declared parts) (constant_values change.old.table change.old.declared others) _ _ h.2
        (agreeing_kinds parts others) (renamed_kinds parts others) (λ k. renamed_values parts others k)

    renamed_values : (trees others : Trees) → AreRenamed change trees others → constant_values change.old.table change.declared trees ≡ constant_values change.old.table change.old.declared others
    renamed_values no_trees no_trees h = refl
    renamed_values no_trees (more_trees other others) h = absurd h
    renamed_values (more_trees first rest) no_trees h = absurd h
    renamed_values (more_trees first rest) (more_trees other others) h =
        ap (λ v. v ∷ constant_values change.old.table change.declared rest) (renamed_value first other h.0)
        ∙ ap (λ l. constant_value change.old.table change.old.declared other ∷ l) (renamed_values rest others h.1)

  pub renamed_constant : (tree other : Tree) → IsRenamed change tree other → constant_of (new_of change) tree ≡ constant_of change.old other
  renamed_constant tree other h =
      ap (λ b. if b then constant_value change.old.table change.declared tree else None) (renamed_form tree other h)
      ∙ ap (λ v. if is_constant_form other then v else None) (renamed_value tree other h)
