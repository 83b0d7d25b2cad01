-- The trees at a place and beside it, level by level.
use Rattle.std.proofs.Common.{◌≡◌, ℕ, Bool, true, false, cond, ◌&&◌, ◌||◌, not, ◌==◌, List, [], ◌∷◌, ◌++◌, map, filter, Option, Some, None, refl, ap, sym, ◌∙◌}
use Rattle.std.specs.List.{filter_map, list_any}
use Rattle.std.specs.Prelude.{option_and_then}
use Rattle.std.proofs.lemmas.List.Elements.{filter_map-append}
use Rattle.std.proofs.lemmas.List.Folds.{list_any-append}
use Rattle.dm_tree.specs.Paths.{Path, tree_at, tree_in}
use Rattle.dm_tree.specs.Trees.{Tree, trees_of}
use Rattle.dm_effect.specs.Entities.{passes}
use Rattle.dm_effect.specs.Operands.{others_by, previous}
use Rattle.dm_effect.specs.Sequencing.{around, below, beside, others_of}
use Rattle.dm_effect.proofs.BesideLemmas.{is_other, steps, others-last}

or-none : (b : Bool) → (b || false) ≡ b
or-none true = refl
or-none false = refl

or-assoc : (p q r : Bool) → ((p || q) || r) ≡ (p || (q || r))
or-assoc true q r = refl
or-assoc false q r = refl

-- one of the trees to which some ways lead
abbrev pub any_at : (Tree → Bool) → Tree → List Path → Bool
any_at test whole ways = list_any test (filter_map (λ (way : Path). tree_at way whole) ways)

module _ (test : Tree → Bool) where
  single-asked : (there : Option Tree) → list_any test (filter_map (λ (found : Option Tree). found) (there ∷ [])) ≡ passes test there
  single-asked None = refl
  single-asked (Some tree) = or-none (test tree)

  -- one more way
  found-asked : (find : Path → Option Tree) (way : Path) (ways : List Path) → list_any test (filter_map find (way ∷ ways)) ≡ (passes test (find way) || list_any test (filter_map find ways))
  found-asked find way ways =
      ap (list_any test) (filter_map-append find (way ∷ []) ways)
      ∙ (list_any-append test (filter_map find (way ∷ [])) (filter_map find ways) ∙ ap (λ b. b || list_any test (filter_map find ways)) (single-asked (find way)))

  -- below a part
  below-asked : (n : ℕ) (whole part : Tree) (ways : List Path) → tree_in (trees_of whole) n ≡ Some part → any_at test whole (map (λ (way : Path). n ∷ way) ways) ≡ any_at test part ways
  below-asked n whole part [] is = refl
  below-asked n whole part (way ∷ ways) is =
      found-asked (λ (way : Path). tree_at way whole) (n ∷ way) (map (λ (way : Path). n ∷ way) ways)
      ∙ (ap (λ found. passes test (option_and_then (tree_at way) found) || any_at test whole (map (λ (way : Path). n ∷ way) ways)) is
      ∙ (ap (λ b. passes test (tree_at way part) || b) (below-asked n whole part ways is)
      ∙ sym (found-asked (λ (way : Path). tree_at way part) way ways)))

module _ (test : Tree → Bool) (whole : Tree) where
  append-asked : (ways others : List Path) → any_at test whole (ways ++ others) ≡ (any_at test whole ways || any_at test whole others)
  append-asked ways others =
      ap (list_any test) (filter_map-append (λ (way : Path). tree_at way whole) ways others)
      ∙ list_any-append test (filter_map (λ (way : Path). tree_at way whole) ways) (filter_map (λ (way : Path). tree_at way whole) others)

  -- ---- operands

  there-asked : (there : Option Tree) → passes test (option_and_then (tree_at []) there) ≡ passes test there
  there-asked None = refl
  there-asked (Some tree) = refl

  last-asked : (operand : ℕ) (b : Bool) → any_at test whole (steps (cond b (operand ∷ []) [])) ≡ (b && passes test (tree_in (trees_of whole) operand))
  last-asked operand true = single-asked test (tree_at (operand ∷ []) whole) ∙ there-asked (tree_in (trees_of whole) operand)
  last-asked operand false = refl

  pub others-asked : (n operand : ℕ) → any_at test whole (others_by n (Some operand))
      ≡ (any_at test whole (others_by n (previous operand)) || (not (operand == n) && passes test (tree_in (trees_of whole) operand)))
  others-asked n operand =
      ap (any_at test whole) (others-last n operand)
      ∙ (append-asked (others_by n (previous operand)) (steps (filter (is_other n) (operand ∷ [])))
      ∙ ap (λ b. any_at test whole (others_by n (previous operand)) || b) (last-asked operand (not (operand == n))))

  -- ---- one level

  pub around-here : (path : Path) → path ≡ [] → list_any test (around path whole) ≡ test whole
  around-here path is = ap (λ them. list_any test (around them whole)) is ∙ or-none (test whole)

  level-asked : (n : ℕ) (path : Path) (found : Option Tree) → tree_in (trees_of whole) n ≡ found
      → list_any test (around (n ∷ path) whole) ≡ (passes test (option_and_then (tree_at path) found) || (any_at test whole (below n (beside path) found) || any_at test whole (others_of n whole)))
  level-asked n path found is =
      found-asked test (λ (way : Path). tree_at way whole) (n ∷ path) (beside (n ∷ path) whole)
      ∙ (ap (λ b. passes test (tree_at (n ∷ path) whole) || b) (append-asked (below n (beside path) (tree_in (trees_of whole) n)) (others_of n whole))
      ∙ ap (λ (there : Option Tree). passes test (option_and_then (tree_at path) there) || (any_at test whole (below n (beside path) there) || any_at test whole (others_of n whole))) is)

  module _ (n : ℕ) (path way : Path) (is : way ≡ n ∷ path) where
    pub around-none : tree_in (trees_of whole) n ≡ None → list_any test (around way whole) ≡ any_at test whole (others_of n whole)
    around-none none = ap (λ them. list_any test (around them whole)) is ∙ level-asked n path None none

    pub around-below : (part : Tree) → tree_in (trees_of whole) n ≡ Some part → list_any test (around way whole) ≡ (list_any test (around path part) || any_at test whole (others_of n whole))
    around-below part some =
        ap (λ them. list_any test (around them whole)) is
        ∙ (level-asked n path (Some part) some
        ∙ (sym (or-assoc (passes test (tree_at path part)) (any_at test whole (map (λ (way : Path). n ∷ way) (beside path part))) (any_at test whole (others_of n whole)))
        ∙ ap (λ b. b || any_at test whole (others_of n whole))
        (ap (λ b. passes test (tree_at path part) || b) (below-asked test n whole part (beside path part) some)
        ∙ sym (found-asked test (λ (way : Path). tree_at way part) path (beside path part)))))

    pub around-other : any_at test whole (others_of n whole) ≡ true → list_any test (around way whole) ≡ true
    around-other other = by (tree_in (trees_of whole) n) refl
      where
        or-true : (b : Bool) → (b || true) ≡ true
        or-true true = refl
        or-true false = refl

        by : (found : Option Tree) → tree_in (trees_of whole) n ≡ found → list_any test (around way whole) ≡ true
        by None none = around-none none ∙ other
        by (Some part) some = around-below part some ∙ (ap (λ b. list_any test (around path part) || b) other ∙ or-true (list_any test (around path part)))
