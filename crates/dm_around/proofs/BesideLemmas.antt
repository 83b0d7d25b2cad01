-- The trees beside a part of an expression.
use Rattle.std.proofs.Common.{◌≡◌, ℕ, suc, ◌+◌, Bool, true, false, cond, ◌&&◌, ◌||◌, not, ◌==◌, List, [], ◌∷◌, ◌++◌, map, filter, length, Option, Some, None, refl, ap, ap₂, sym, ◌∙◌, arith}
use Rattle.std.specs.List.{filter_map, list_any, range_with_len}
use Rattle.std.specs.Prelude.{option_and_then}
use Rattle.std.proofs.lemmas.List.Elements.{filter_map-append}
use Rattle.std.proofs.lemmas.List.Folds.{list_any-append}
use Rattle.dm_tree.specs.Paths.{Path, tree_at, tree_in}
use Rattle.dm_tree.specs.Trees.{Tree, Trees, no_trees, more_trees, label_of, spans_of, trees_of, listed, parts_of}
use Rattle.dm_effect.specs.Entities.{passes}
use Rattle.dm_effect.specs.Sequencing.{is_unsequenced, others_of, below, beside, around}
use Rattle.dm_sites.specs.Sites.{Site, operand_site}
use Rattle.dm_around.specs.Surroundings.{any_beside, any_other}

pub or-none : (b : Bool) → (b || false) ≡ b
or-none true = refl
or-none false = refl

pub or-assoc : (p q r : Bool) → ((p || q) || r) ≡ (p || (q || r))
or-assoc true q r = refl
or-assoc false q r = refl

-- one of the trees to which some ways lead
abbrev any_at : (Tree → Bool) → Tree → List Path → Bool
any_at test whole ways = list_any test (filter_map (λ (way : Path). tree_at way whole) ways)

module _ (test : Tree → Bool) where
  single-asked : (there : Option Tree) → list_any test (filter_map (λ (found : Option Tree). found) (there ∷ [])) ≡ passes test there
  single-asked None = refl
  single-asked (Some tree) = or-none (test tree)

  found-asked : (find : Path → Option Tree) (way : Path) (ways : List Path) → list_any test (filter_map find (way ∷ ways)) ≡ (passes test (find way) || list_any test (filter_map find ways))
  found-asked find way ways =
      ap (list_any test) (filter_map-append find (way ∷ []) ways)
      ∙ (list_any-append test (filter_map find (way ∷ [])) (filter_map find ways) ∙ ap (λ b. b || list_any test (filter_map find ways)) (single-asked (find way)))

  below-asked : (n : ℕ) (whole part : Tree) (ways : List Path) → tree_in (trees_of whole) n ≡ Some part → any_at test whole (map (λ (way : Path). n ∷ way) ways) ≡ any_at test part ways
  below-asked n whole part [] is = refl
  below-asked n whole part (way ∷ ways) is =
      found-asked (λ (way : Path). tree_at way whole) (n ∷ way) (map (λ (way : Path). n ∷ way) ways)
      ∙ (ap (λ found. passes test (option_and_then (tree_at way) found) || any_at test whole (map (λ (way : Path). n ∷ way) ways)) is
      ∙ (ap (λ b. passes test (tree_at way part) || b) (below-asked n whole part ways is)
      ∙ sym (found-asked (λ (way : Path). tree_at way part) way ways)))

  append-asked : (whole : Tree) (ways others : List Path) → any_at test whole (ways ++ others) ≡ (any_at test whole ways || any_at test whole others)
  append-asked whole ways others =
      ap (list_any test) (filter_map-append (λ (way : Path). tree_at way whole) ways others)
      ∙ list_any-append test (filter_map (λ (way : Path). tree_at way whole) ways) (filter_map (λ (way : Path). tree_at way whole) others)

  -- ---- operands

  there-asked : (there : Option Tree) → passes test (option_and_then (tree_at []) there) ≡ passes test there
  there-asked None = refl
  there-asked (Some tree) = refl

  range-by : (whole : Tree) (k : ℕ) (first : Tree) (b other : Bool) (ways : List Path) → tree_in (trees_of whole) k ≡ Some first → any_at test whole ways ≡ other
      → any_at test whole (cond b ((k ∷ []) ∷ ways) ways) ≡ ((b && test first) || other)
  range-by whole k first true other ways here behind =
      found-asked (λ (way : Path). tree_at way whole) (k ∷ []) ways
      ∙ ap₂ (λ (a b : Bool). a || b) (there-asked (tree_in (trees_of whole) k) ∙ ap (λ found. passes test found) here) behind
  range-by whole k first false other ways here behind = behind

  pushed-in : (n k : ℕ) (numbers : List ℕ) (b : Bool) → map (λ m. m ∷ []) (cond b (k ∷ numbers) numbers) ≡ cond b ((k ∷ []) ∷ map (λ m. m ∷ []) numbers) (map (λ m. m ∷ []) numbers)
  pushed-in n k numbers true = refl
  pushed-in n k numbers false = refl

  range-asked : (whole : Tree) (n k : ℕ) (rest : Trees) → ((m : ℕ) → tree_in (trees_of whole) (k + m) ≡ tree_in rest m)
      → any_at test whole (map (λ m. m ∷ []) (filter (λ m. not (m == n)) (range_with_len k (length (listed rest))))) ≡ any_other test n k (listed rest)
  range-asked whole n k no_trees same = refl
  range-asked whole n k (more_trees first rest) same =
      let numbers = filter (λ m. not (m == n)) (range_with_len (k + 1) (length (listed rest))) in
      let none : k ≡ k + 0 = omega arith in
      let more : k + 1 ≡ suc k = omega arith in
      let behind : any_at test whole (map (λ m. m ∷ []) numbers) ≡ any_other test n (suc k) (listed rest) =
      ap (λ (j : ℕ). any_at test whole (map (λ m. m ∷ []) (filter (λ m. not (m == n)) (range_with_len j (length (listed rest)))))) more
      ∙ range-asked whole n (suc k) rest (λ m. let next : suc k + m ≡ k + suc m = omega arith in ap (tree_in (trees_of whole)) next ∙ same (suc m)) in
      ap (any_at test whole) (pushed-in n k numbers (not (k == n)))
      ∙ range-by whole k first (not (k == n)) (any_other test n (suc k) (listed rest)) (map (λ m. m ∷ []) numbers) (ap (tree_in (trees_of whole)) none ∙ same 0) behind

  others-by : (whole : Tree) (ways : List Path) (other b : Bool) → any_at test whole ways ≡ other → any_at test whole (cond b ways []) ≡ cond b other false
  others-by whole ways other true is = is
  others-by whole ways other false is = refl

  others-asked : (n : ℕ) (whole : Tree) → any_at test whole (others_of n whole) ≡ cond (is_unsequenced (label_of whole)) (any_other test n 0 (parts_of whole)) false
  others-asked n whole =
      others-by whole (map (λ m. m ∷ []) (filter (λ m. not (m == n)) (range_with_len 0 (length (parts_of whole))))) (any_other test n 0 (parts_of whole)) (is_unsequenced (label_of whole))
      (range-asked whole n 0 (trees_of whole) (λ m. let none : 0 + m ≡ m = omega arith in ap (tree_in (trees_of whole)) none))

  -- ---- one level more

  none-below : (n : ℕ) (found : Option Tree) (whole : Tree) → any_at test whole (below n (beside []) found) ≡ false
  none-below n None whole = refl
  none-below n (Some tree) whole = refl

  level-by : (n k : ℕ) (path : Path) (whole tree : Tree) (found : Option Tree) → tree_in (trees_of whole) k ≡ found → option_and_then (tree_at path) found ≡ Some tree
      → ((part : Tree) → tree_at path part ≡ Some tree → any_at test part (beside (path ++ n ∷ []) part) ≡ (any_at test tree (others_of n tree) || any_at test part (beside path part)))
      → any_at test whole (below k (beside (path ++ n ∷ [])) found ++ others_of k whole)
      ≡ (any_at test tree (others_of n tree) || any_at test whole (below k (beside path) found ++ others_of k whole))
  level-by n k path whole tree None is there goes = absurd (cc)
  level-by n k path whole tree (Some part) is there goes =
      append-asked whole (map (λ (way : Path). k ∷ way) (beside (path ++ n ∷ []) part)) (others_of k whole)
      ∙ (ap (λ b. b || any_at test whole (others_of k whole)) (below-asked k whole part (beside (path ++ n ∷ []) part) is ∙ goes part there)
      ∙ (or-assoc (any_at test tree (others_of n tree)) (any_at test part (beside path part)) (any_at test whole (others_of k whole))
      ∙ ap (λ b. any_at test tree (others_of n tree) || b)
      (ap (λ b. b || any_at test whole (others_of k whole)) (sym (below-asked k whole part (beside path part) is))
      ∙ sym (append-asked whole (map (λ (way : Path). k ∷ way) (beside path part)) (others_of k whole)))))

  level-asked : (n : ℕ) (path : Path) (whole tree : Tree) → tree_at path whole ≡ Some tree
      → any_at test whole (beside (path ++ n ∷ []) whole) ≡ (any_at test tree (others_of n tree) || any_at test whole (beside path whole))
  level-asked n [] whole tree there =
      let same : whole ≡ tree = cc in
      append-asked whole (below n (beside []) (tree_in (trees_of whole) n)) (others_of n whole)
      ∙ (ap (λ b. b || any_at test whole (others_of n whole)) (none-below n (tree_in (trees_of whole) n) whole)
      ∙ (ap (λ (one : Tree). any_at test one (others_of n one)) same ∙ sym (or-none (any_at test tree (others_of n tree)))))
  level-asked n (k ∷ path) whole tree there = level-by n k path whole tree (tree_in (trees_of whole) k) refl there (λ part is. level-asked n path part tree is)

  pub beside-part : (upper site : Site) (part : ℕ) → tree_at upper.path upper.full ≡ Some upper.tree → site ≡ operand_site upper (label_of upper.tree) (spans_of upper.tree) part site.tree
      → any_beside test site ≡ (cond (is_unsequenced (label_of upper.tree)) (any_other test part 0 (parts_of upper.tree)) false || any_beside test upper)
  beside-part upper site part there same =
      ap (any_beside test) same
      ∙ (level-asked part upper.path upper.full upper.tree there ∙ ap (λ b. b || any_beside test upper) (others-asked part upper.tree))

  pub around-asked : (site : Site) → tree_at site.path site.full ≡ Some site.tree → list_any test (around site.path site.full) ≡ (test site.tree || any_beside test site)
  around-asked site there =
      found-asked (λ (way : Path). tree_at way site.full) site.path (beside site.path site.full) ∙ ap (λ found. passes test found || any_beside test site) there
