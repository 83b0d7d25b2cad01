-- Where nothing is put in, units that are aligned are so the other way round.
use Rattle.std.specs.Prelude.{◌≡◌, refl, ℕ, List, [], ◌∷◌, map, flat_map, None}
use Rattle.std.proofs.Common.{ap, sym, ◌∙◌, subst}
use Rattle.dm_token.specs.declared.place.Span.{Span}
use Rattle.dm_runs.specs.declared.run.Run.{Run}
use Rattle.dm_type.specs.Tables.{Table}
use Rattle.dm_tree.specs.Trees.{Label, declare, Declarator, Spans, Tree, Trees, node, no_trees, more_trees}
use Rattle.dm_tree.specs.Units.{External, ExternalForm, declares, defines_function, TypedUnit}
use Rattle.dm_meaning.specs.Replaced.{relabelled, renamed_declarator, Zipped}
use Rattle.dm_agree.specs.Standing.{runs_with, runs_at, runs_below, extents_of, extents_below}
use Rattle.dm_agree.specs.Agreement.{Rewriting, Agrees, AllAgree, AgreesWhole}
use Rattle.dm_align.specs.Units.{moved, FormsAgree, ExternalsAgree, rewriting_of, AreAligned}

-- the renaming of nothing
declarators_stay : (declarators : List Declarator) → declarators ≡ map (renamed_declarator (moved None)) declarators
declarators_stay [] = refl
declarators_stay (one ∷ others) = ap (λ (rest : List Declarator). one ∷ rest) (declarators_stay others)

label_stays : (label : Label) → label ≡ relabelled (moved None) label
label_stays (declare lengths declarators) = ap (declare lengths) (declarators_stay declarators)
label_stays label = refl

numbers_stay : (numbers : List ℕ) → numbers ≡ map (moved None) numbers
numbers_stay [] = refl
numbers_stay (one ∷ others) = ap (λ (rest : List ℕ). one ∷ rest) (numbers_stay others)

no_runs : (spans : List Span) → flat_map (runs_with []) spans ≡ []
no_runs [] = refl
no_runs (one ∷ others) = no_runs others

module _ (old_types new_types : Table) (old new : TypedUnit) (runs : List Run) where
  abbrev forth : Rewriting
  forth = rewriting_of old_types old runs None

  abbrev back : Rewriting
  back = rewriting_of new_types new [] None

  mutual
    tree_back : (standing : List Run) (tree other : Tree) → Agrees forth standing tree other → Agrees back [] other tree
    tree_back [] (node label kind spans parts) (node other other_kind other_spans others) h =
        ((label_stays other ∙ (sym h.0.0 ∙ label_stays label), sym h.0.1), trees_back other other_spans label spans parts others h.1)
    tree_back (run ∷ inner) (node label kind spans parts) other h = absurd h

    trees_back : (other_label : Label) (other_spans : Spans) (label : Label) (spans : Spans) (trees others : Trees) → AllAgree forth other_label other_spans trees others
        → AllAgree back label spans others trees
    trees_back other_label other_spans label spans no_trees no_trees h = tt
    trees_back other_label other_spans label spans no_trees (more_trees other others) h = absurd h
    trees_back other_label other_spans label spans (more_trees first rest) no_trees h = absurd h
    trees_back other_label other_spans label spans (more_trees first rest) (more_trees other others) h = (
      subst (λ (standing : List Run). Agrees back standing other first) (sym (no_runs (extents_below label spans first)))
          (tree_back (runs_below runs other_label other_spans other) first other h.0),
      trees_back other_label other_spans label spans rest others h.1,
    )

  whole_back : (tree other : Tree) → AgreesWhole forth tree other → AgreesWhole back other tree
  whole_back tree other h = subst (λ (standing : List Run). Agrees back standing other tree) (sym (no_runs (extents_of tree))) (tree_back (runs_at runs other) tree other h)

  zipped_back : {A : Type 0} (R S : A → A → Type 0) → ((x y : A) → R x y → S y x) → (xs ys : List A) → Zipped R xs ys → Zipped S ys xs
  zipped_back R S f [] [] h = tt
  zipped_back R S f [] (y ∷ ys) h = absurd h
  zipped_back R S f (x ∷ xs) [] h = absurd h
  zipped_back R S f (x ∷ xs) (y ∷ ys) h = (f x y h.0, zipped_back R S f xs ys h.1)

  form_back : (form other : ExternalForm) → FormsAgree forth form other → FormsAgree back other form
  form_back (declares declarators trees) (declares others other_trees) h =
      (declarators_stay others ∙ (sym h.0 ∙ declarators_stay declarators), zipped_back (AgreesWhole forth) (AgreesWhole back) whole_back trees other_trees h.1)
  form_back (declares declarators trees) (defines_function g others body) h = absurd h
  form_back (defines_function f parameters body) (declares others other_trees) h = absurd h
  form_back (defines_function f parameters body) (defines_function g others other) h =
      (sym h.0, numbers_stay others ∙ (sym h.1 ∙ numbers_stay parameters), whole_back body other h.2)

  external_back : (one other : External) → ExternalsAgree forth one other → ExternalsAgree back other one
  external_back one other h = (zipped_back (AgreesWhole forth) (AgreesWhole back) whole_back one.constants other.constants h.0, form_back one.form other.form h.1)

  pub aligned_back : AreAligned old_types new_types old new runs None → AreAligned new_types old_types new old [] None
  aligned_back h = record {
    structs = sym h.structs;
    added = tt;
    declared = sym h.declared;
    externals = zipped_back (ExternalsAgree forth) (ExternalsAgree back) external_back new.externals old.externals h.externals;
    placed = tt;
  }
