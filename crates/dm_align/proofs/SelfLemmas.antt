-- A tree agrees with itself where no run stands.
use Rattle.std.proofs.Common.{◌≡◌, ℕ, List, [], ◌∷◌, map, flat_map, None, Option, ℤ, refl, ap, sym, subst}
use Rattle.dm_token.specs.declared.place.Span.{Span}
use Rattle.dm_runs.specs.declared.run.Run.{Run}
use Rattle.dm_tree.specs.Trees.{Label, declare, Declarator, Spans, Tree, Trees, node, no_trees, more_trees}
use Rattle.dm_tree.specs.Units.{External, ExternalForm, declares, defines_function}
use Rattle.dm_meaning.specs.Replaced.{relabelled, renamed_declarator, Zipped}
use Rattle.dm_agree.specs.Standing.{runs_with, extents_of, extents_below}
use Rattle.dm_agree.specs.Agreement.{Rewriting, nothing, Agrees, AllAgree, AgreesWhole}
use Rattle.dm_align.specs.Units.{moved, ExternalsAgree, FormsAgree}

-- the renaming of nothing
declarators-stay : (declarators : List Declarator) → declarators ≡ map (renamed_declarator (moved None)) declarators
declarators-stay [] = refl
declarators-stay (one ∷ others) = ap (λ (rest : List Declarator). one ∷ rest) (declarators-stay others)

label-stays : (label : Label) → label ≡ relabelled (moved None) label
label-stays (declare lengths declarators) = ap (declare lengths) (declarators-stay declarators)
label-stays label = refl

numbers-stay : (numbers : List ℕ) → numbers ≡ map (moved None) numbers
numbers-stay [] = refl
numbers-stay (one ∷ others) = ap (λ (rest : List ℕ). one ∷ rest) (numbers-stay others)

no-runs : (spans : List Span) → flat_map (runs_with []) spans ≡ []
no-runs [] = refl
no-runs (one ∷ others) = no-runs others

-- the elements of a list are related to themselves
zipped-self : {A : Type 0} (R : A → A → Type 0) → ((x : A) → R x x) → (xs : List A) → Zipped R xs xs
zipped-self R each [] = tt
zipped-self R each (x ∷ xs) = (each x, zipped-self R each xs)

module _ (value : Tree → Option ℤ) where
  abbrev it : Rewriting
  it = record { runs = []; added = nothing; rename = moved None; value = value }

  mutual
    agrees-self : (tree : Tree) → Agrees it [] tree tree
    agrees-self (node label kind spans parts) = ((label-stays label, refl), all-agree-self label spans parts)

    all-agree-self : (label : Label) (spans : Spans) (parts : Trees) → AllAgree it label spans parts parts
    all-agree-self label spans no_trees = tt
    all-agree-self label spans (more_trees first rest) = (
      subst (λ (runs : List Run). Agrees it runs first first) (sym (no-runs (extents_below label spans first))) (agrees-self first),
      all-agree-self label spans rest,
    )

  whole-self : (tree : Tree) → AgreesWhole it tree tree
  whole-self tree = subst (λ (runs : List Run). Agrees it runs tree tree) (sym (no-runs (extents_of tree))) (agrees-self tree)

  form-self : (form : ExternalForm) → FormsAgree it form form
  form-self (declares declarators trees) = (declarators-stay declarators, zipped-self (AgreesWhole it) whole-self trees)
  form-self (defines_function f parameters body) = (refl, numbers-stay parameters, whole-self body)

  external-self : (one : External) → ExternalsAgree it one one
  external-self one = (zipped-self (AgreesWhole it) whole-self one.constants, form-self one.form)

  pub externals-self : (externals : List External) → Zipped (ExternalsAgree it) externals externals
  externals-self = zipped-self (ExternalsAgree it) external-self
