-- Aligned units, where a const object is put in.
--     constant_units      they are the same but for its declaration and reads of it in place of constant expressions
use Rattle.std.specs.Prelude.{◌≡◌, refl, ℕ, ◌+◌, IsTrue, All, ℤ, List, take, drop, Option, Some, None, slice_get}
use Rattle.std.specs.Option.{IsSomeAnd}
use Rattle.std.proofs.Common.{ap, sym, ◌∙◌, subst, inl, inr}
use Rattle.std.proofs.lemmas.Bool.{true≢false}
use Rattle.dm_runs.specs.declared.run.Run.{Run}
use Rattle.dm_int.specs.declared.Kind.{Kind}
use Rattle.dm_type.specs.Tables.{Table}
use Rattle.dm_tree.specs.Trees.{block, is_statement, Tree, node, trees_of, label_of}
use Rattle.dm_tree.specs.Typing.{FormFits, ExternalFits, IsWellTypedUnit, file_scene, body_scene}
use Rattle.dm_tree.specs.Units.{External, ExternalForm, declares, defines_function, TypedUnit}
use Rattle.dm_meaning.specs.Units.{program_of}
use Rattle.dm_meaning.proofs.OptionLemmas.{and_left}
use Rattle.dm_effect.specs.Scoped.{is_scoped_external, IsScopedUnit}
use Rattle.dm_rewrite.specs.NamedConstants as named
use Rattle.dm_rewrite.specs.NamedConstants.{Named}
use Rattle.dm_rewrite.specs.NamedUnits.{change_of, FormAgrees, ExternalAgrees, IsUnitNaming}
use Rattle.dm_sound.specs.TypedTrees.{IsSoundTable}
use Rattle.dm_sound.proofs.LayoutLemmas.{constants_alike}
use Rattle.dm_agree.specs.Agreement.{Added, added_constant}
use Rattle.dm_agree.specs.Standing.{runs_at}
use Rattle.dm_align.specs.Units as aligned
use Rattle.dm_align.specs.Units.{Insertion, moved, other_externals, FormAdds, rewriting_of, AreAligned}
use Rattle.dm_refine.proofs.ConstantEntryLemmas.{IsConstantPut, constant_put}
use Rattle.dm_refine.proofs.ConstantLocalLemmas.{locals_same}
use Rattle.dm_refine.proofs.ConstantTreeLemmas.{IsAddedEntry, AddsObject, tree_named, fixed_named}
use Rattle.dm_refine.proofs.NumberLemmas.{moved_injective, moved_apart, entry_told}
use Rattle.dm_refine.proofs.PutLemmas.{parts_of_list, all_without, zipped_typed, all_passing, all_there}
use Rattle.dm_refine.proofs.StaticLemmas.{declarators_inert}
use Rattle.dm_refine.proofs.TypedLemmas.{typed_body}

-- the parts of bodies that agree
body_parts : (change : Named) (tree other : Tree) → label_of tree ≡ block → named.Agrees change tree other → named.AllAgree change (trees_of tree) (trees_of other)
body_parts change (node label kind spans parts) other e (inl h) = h.3
body_parts change (node label kind spans parts) other e (inr h) = absurd (true≢false (sym (ap is_statement (sym h.is ∙ e))))

module _ (old_types new_types : Table) (old new : TypedUnit) (runs : List Run) (old_typed : IsWellTypedUnit old_types old) (typed : IsWellTypedUnit new_types new) (scoped : IsScopedUnit new)
    (put : Insertion) (h : AreAligned old_types new_types old new runs (Some put)) (d : ℕ) (value : ℤ) (adds : put.added ≡ added_constant d value) where
  -- an external declaration that fits, and in which no object of file scope is automatic
  abbrev Fits : External → Type 0
  Fits external = ExternalFits (file_scene new_types new.declared) external × IsTrue (is_scoped_external new.declared external)

  abbrev all_fit : All Fits new.externals
  all_fit k default inside = (typed.externals k default inside, all_passing (is_scoped_external new.declared) new.externals scoped k default inside)

  module _ (external : External) (found : slice_get new.externals put.external ≡ Some external) (one : IsConstantPut new_types new put d value external) where
    abbrev change : Named
    change = change_of old_types new old (moved (Some put)) d one.kind value

    abbrev entry : IsAddedEntry new.declared d one.kind
    entry = record { entry = one.entry; found = one.found; typed = one.typed }

    abbrev is_added : AddsObject change put.added
    is_added = subst (AddsObject change) (sym adds) (refl, refl)

    forms_agree : (form other : ExternalForm) → FormFits (file_scene new_types new.declared) form → IsTrue (is_scoped_external new.declared (record external { form = form }))
        → FormFits (file_scene old_types old.declared) other → aligned.FormsAgree (rewriting_of old_types old runs (Some put)) form other → FormAgrees change form other
    forms_agree (declares declarators trees) (declares others other_trees) t s u agree = (
      agree.0,
      fixed_named change (entry_told (Some put) new.declared old.declared h.declared) entry runs put.added is_added (file_scene old_types old.declared) (file_scene new_types new.declared) refl
          trees other_trees t.0 u.0 (declarators_inert (file_scene new_types new.declared) declarators trees t.0 t.1 (and_left _ _ s)) agree.1,
    )
    forms_agree (declares declarators trees) (defines_function g others body) t s u agree = absurd agree
    forms_agree (defines_function f parameters body) (declares others other_trees) t s u agree = absurd agree
    forms_agree (defines_function f parameters body) (defines_function g others other) t s u agree =
        let told = entry_told (Some put) new.declared old.declared h.declared in
        let new_body = typed_body new_types new.declared f parameters body t in
        let old_body = typed_body old_types old.declared g others other u in
        let whole = tree_named change told entry runs put.added is_added (body_scene (file_scene old_types old.declared) old_body.result) (body_scene (file_scene new_types new.declared) new_body.result) refl
        (runs_at runs other) body other new_body.typed old_body.typed agree.2 in (
          agree.0,
          agree.1,
          new_body.block,
          old_body.block,
          body_parts change body other new_body.block whole,
          locals_same change told (body_scene (file_scene new_types new.declared) new_body.result) refl body other new_body.typed whole,
        )

    pub naming : IsUnitNaming old_types new old (moved (Some put)) d one.kind value
    naming = record {
      injective = moved_injective (Some put);
      apart = λ c e. moved_apart put c (subst (aligned.IsPut put) (sym e) one.inside);
      told = entry_told (Some put) new.declared old.declared h.declared;
      before = take put.external new.externals;
      adds = external;
      behind = drop (put.external + 1) new.externals;
      externals = parts_of_list put.external new.externals external found;
      others = zipped_typed Fits (ExternalFits (file_scene old_types old.declared)) (aligned.ExternalsAgree (rewriting_of old_types old runs (Some put))) (ExternalAgrees change)
          (λ first other fits other_fits agree. forms_agree first.form other.form fits.0.2 fits.1 other_fits.2 agree.1) (other_externals (Some put) new.externals) old.externals
          (all_without Fits put.external new.externals all_fit) old_typed.externals h.externals;
      declaration = record {
        declarator = _;
        tree = one.tree;
        form = one.form;
        declared = refl;
        defines = refl;
        initialiser = refl;
        declaration = one.entry;
        entry = one.found;
        sort = one.sort;
        kind = one.typed;
        number = value;
        constant = sym (constants_alike old_types new_types h.structs (program_of old_types new) one.tree) ∙ one.constant;
        converted = one.range;
      };
    }

  module _ (sound : IsSoundTable new_types) where
    by_external : (found : Option External) → slice_get new.externals put.external ≡ found → IsSomeAnd found (λ external. FormAdds new_types new put put.added external.form)
        → (kind : Kind) × IsUnitNaming old_types new old (moved (Some put)) d kind value
    by_external None e adds_it = absurd adds_it
    by_external (Some external) e adds_it =
        let fits = all_there (ExternalFits (file_scene new_types new.declared)) new.externals typed.externals put.external external e in
        let one = constant_put new_types sound new typed put d value external fits (subst (λ (added : Added). FormAdds new_types new put added external.form) adds adds_it) in
        (one.kind, naming external e one)

    pub constant_units : (kind : Kind) × IsUnitNaming old_types new old (moved (Some put)) d kind value
    constant_units = by_external (slice_get new.externals put.external) refl h.added
