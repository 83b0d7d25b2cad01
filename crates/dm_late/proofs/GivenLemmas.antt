-- How arguments are passed: those of parameters that are read late stand untouched in the old program, the others are evaluated in both at once.
--     ways_of late ps arguments      how each is passed
--     AreLate late P ps arguments      the arguments that are read late have a property
use Rattle.std.specs.Prelude.{◌≡◌, refl, ℕ, suc, ◌==◌, Bool, true, false, List, [], ◌∷◌, length, map, Option, Some, None, if◌then◌else◌}
use Rattle.std.proofs.Common.{ap, sym, ◌∙◌, subst, inl, inr}
use Rattle.dm_tree.specs.Trees.{Tree, Trees, no_trees, more_trees, listed}
use Rattle.dm_meaning.specs.Among.{IsAmong}
use Rattle.dm_meaning.specs.CalledWithAll.{given}
use Rattle.dm_meaning.specs.Running.{Run, Runs, more_runs, begun, all_begun}
use Rattle.dm_meaning.proofs.GrowLemmas.{equal_of}
use Rattle.dm_meaning.proofs.OptionLemmas.{none_is_some, some_is_some}
use Rattle.dm_meaning.proofs.StandLemmas.{run_list}
use Rattle.dm_rewrite.specs.Computed.{IsPure}
use Rattle.dm_rewrite.specs.Effects.{Effect, Stage}
use Rattle.dm_central.specs.Agreement.{AllUntouched}
use Rattle.dm_central.specs.Arguments.{ReadsApart, Way, at_once, untouched, runs_at, trees_at}

-- ---- lists that belong to parameters

pub given_if : {A : Type 0} (b : Bool) (x : A) (rest : Option A) (y : A) (R : Type 0) → (if b then Some x else rest) ≡ Some y → (b ≡ true → x ≡ y → R) → (b ≡ false → rest ≡ Some y → R) → R
given_if true x rest y R e f g = f refl (some_is_some x y e)
given_if false x rest y R e f g = g refl e

if_true : {A : Type 0} (b : Bool) (x y : A) → b ≡ true → (if b then x else y) ≡ x
if_true b x y e = ap (λ c. if c then x else y) e

if_false : {A : Type 0} (b : Bool) (x y : A) → b ≡ false → (if b then x else y) ≡ y
if_false b x y e = ap (λ c. if c then x else y) e

pub given_mapped : {A B : Type 0} (f : A → B) (ps : List ℕ) (xs : List A) (p : ℕ) (x : A) → given ps xs p ≡ Some x → given ps (map f xs) p ≡ Some (f x)
given_mapped f [] xs p x e = absurd (none_is_some x e)
given_mapped f (q ∷ ps) [] p x e = absurd (none_is_some x e)
given_mapped f (q ∷ ps) (y ∷ xs) p x e =
    given_if (q == p) y (given ps xs p) x ((if q == p then Some (f y) else given ps (map f xs) p) ≡ Some (f x)) e (λ t g. if_true (q == p) (Some (f y)) (given ps (map f xs) p) t ∙ ap (λ z. Some (f z)) g)
    (λ t g. if_false (q == p) (Some (f y)) (given ps (map f xs) p) t ∙ given_mapped f ps xs p x g)

pub given_among : {A : Type 0} (ps : List ℕ) (xs : List A) (p : ℕ) (x : A) → given ps xs p ≡ Some x → IsAmong p ps
given_among [] xs p x e = absurd (none_is_some x e)
given_among (q ∷ ps) [] p x e = absurd (none_is_some x e)
given_among (q ∷ ps) (y ∷ xs) p x e = given_if (q == p) y (given ps xs p) x (IsAmong p (q ∷ ps)) e (λ t g. inl (sym (equal_of q p t))) (λ t g. inr (given_among ps xs p x g))

pub runs_as_many : (trees : Trees) → length (run_list (all_begun trees)) ≡ length (listed trees)
runs_as_many no_trees = refl
runs_as_many (more_trees first rest) = ap suc (runs_as_many rest)

-- ---- ways

abbrev pub way_of : Bool → Tree → Way
way_of true tree = untouched tree
way_of false tree = at_once

abbrev pub ways_of : (ℕ → Bool) → List ℕ → Trees → List Way
ways_of late [] trees = []
ways_of late (p ∷ ps) no_trees = []
ways_of late (p ∷ ps) (more_trees first rest) = way_of (late p) first ∷ ways_of late ps rest

abbrev pub tree_if : Bool → Tree → Option Tree
tree_if true tree = Some tree
tree_if false tree = None

abbrev pub run_if : Bool → Tree → Option Run
run_if true tree = None
run_if false tree = Some (begun tree)

trees_first : (b : Bool) (first : Tree) (ways : List Way) → trees_at (way_of b first ∷ ways) ≡ tree_if b first ∷ trees_at ways
trees_first true first ways = refl
trees_first false first ways = refl

runs_first : (b : Bool) (first : Tree) (ways : List Way) (rest : Runs) → runs_at (way_of b first ∷ ways) (more_runs (begun first) rest) ≡ run_if b first ∷ runs_at ways rest
runs_first true first ways rest = refl
runs_first false first ways rest = refl

module _ (late : ℕ → Bool) where
  pub given_tree : (ps : List ℕ) (trees : Trees) (p : ℕ) (x : Tree) → given ps (listed trees) p ≡ Some x → given ps (trees_at (ways_of late ps trees)) p ≡ Some (tree_if (late p) x)
  given_tree [] trees p x e = absurd (none_is_some x e)
  given_tree (q ∷ ps) no_trees p x e = absurd (none_is_some x e)
  given_tree (q ∷ ps) (more_trees y rest) p x e =
      let others = trees_at (ways_of late ps rest) in
      ap (λ (found : List (Option Tree)). given (q ∷ ps) found p) (trees_first (late q) y (ways_of late ps rest))
      ∙ given_if (q == p) y (given ps (listed rest) p) x ((if q == p then Some (tree_if (late q) y) else given ps others p) ≡ Some (tree_if (late p) x)) e
      (λ t g. if_true (q == p) (Some (tree_if (late q) y)) (given ps others p) t ∙ (ap (λ n. Some (tree_if (late n) y)) (equal_of q p t) ∙ ap (λ (z : Tree). Some (tree_if (late p) z)) g))
      (λ t g. if_false (q == p) (Some (tree_if (late q) y)) (given ps others p) t ∙ given_tree ps rest p x g)

  pub given_run : (ps : List ℕ) (trees : Trees) (p : ℕ) (x : Tree) → given ps (listed trees) p ≡ Some x → given ps (runs_at (ways_of late ps trees) (all_begun trees)) p ≡ Some (run_if (late p) x)
  given_run [] trees p x e = absurd (none_is_some x e)
  given_run (q ∷ ps) no_trees p x e = absurd (none_is_some x e)
  given_run (q ∷ ps) (more_trees y rest) p x e =
      let others = runs_at (ways_of late ps rest) (all_begun rest) in
      ap (λ (found : List (Option Run)). given (q ∷ ps) found p) (runs_first (late q) y (ways_of late ps rest) (all_begun rest))
      ∙ given_if (q == p) y (given ps (listed rest) p) x ((if q == p then Some (run_if (late q) y) else given ps others p) ≡ Some (run_if (late p) x)) e
      (λ t g. if_true (q == p) (Some (run_if (late q) y)) (given ps others p) t ∙ (ap (λ n. Some (run_if (late n) y)) (equal_of q p t) ∙ ap (λ (z : Tree). Some (run_if (late p) z)) g))
      (λ t g. if_false (q == p) (Some (run_if (late q) y)) (given ps others p) t ∙ given_run ps rest p x g)

  way_once : (b : Bool) (tree : Tree) → way_of b tree ≡ at_once → b ≡ false
  way_once true tree e = absurd (cc)
  way_once false tree e = refl

  pub way_untouched : (b : Bool) (first tree : Tree) → untouched tree ≡ way_of b first → (b ≡ true) × (tree ≡ first)
  way_untouched true first tree e = (refl, cc)
  way_untouched false first tree e = absurd (cc)

  pub once_early : (ps : List ℕ) (trees : Trees) (p : ℕ) → given ps (ways_of late ps trees) p ≡ Some at_once → late p ≡ false
  once_early [] trees p e = absurd (none_is_some at_once e)
  once_early (q ∷ ps) no_trees p e = absurd (none_is_some at_once e)
  once_early (q ∷ ps) (more_trees first rest) p e =
      given_if (q == p) (way_of (late q) first) (given ps (ways_of late ps rest) p) at_once (late p ≡ false) e (λ t g. subst (λ n. late n ≡ false) (equal_of q p t) (way_once (late q) first g))
      (λ t g. once_early ps rest p g)

  -- ---- arguments that are read late

  abbrev pub AreLateOnes : (Tree → Type 0) → List ℕ → Trees → Type 0
  AreLateOnes P [] trees = Unit {0}
  AreLateOnes P (p ∷ ps) no_trees = Unit {0}
  AreLateOnes P (p ∷ ps) (more_trees first rest) = (late p ≡ true → P first) × AreLateOnes P ps rest

  pub of_untouched : (P : Tree → Type 0) (ps : List ℕ) (trees : Trees) → AreLateOnes P ps trees → (tree : Tree) → IsAmong (untouched tree) (ways_of late ps trees) → P tree
  of_untouched P [] trees h tree l = absurd l
  of_untouched P (q ∷ ps) no_trees h tree l = absurd l
  of_untouched P (q ∷ ps) (more_trees first rest) h tree (inl e) = let both = way_untouched (late q) first tree e in subst P (sym both.1) (h.0 both.0)
  of_untouched P (q ∷ ps) (more_trees first rest) h tree (inr k) = of_untouched P ps rest h.1 tree k

  -- where more is asked of the arguments of certain parameters
  abbrev pub AreUnlessFirst : (ℕ → Bool) → (Tree → Type 0) → List ℕ → Trees → Type 0
  AreUnlessFirst first P [] trees = Unit {0}
  AreUnlessFirst first P (p ∷ ps) no_trees = Unit {0}
  AreUnlessFirst first P (p ∷ ps) (more_trees one rest) = (late p ≡ true → first p ≡ false → P one) × AreUnlessFirst first P ps rest

  pub of_given : (first : ℕ → Bool) (P : Tree → Type 0) (ps : List ℕ) (trees : Trees) → AreUnlessFirst first P ps trees → (p : ℕ) (tree : Tree) → given ps (ways_of late ps trees) p ≡ Some (untouched tree)
      → first p ≡ false → P tree
  of_given first P [] trees h p tree e f = absurd (none_is_some (untouched tree) e)
  of_given first P (q ∷ ps) no_trees h p tree e f = absurd (none_is_some (untouched tree) e)
  of_given first P (q ∷ ps) (more_trees one rest) h p tree e f =
      given_if (q == p) (way_of (late q) one) (given ps (ways_of late ps rest) p) (untouched tree) (P tree) e
      (λ t g. let both = way_untouched (late q) one tree (sym g) in subst P (sym both.1) (h.0 both.0 (ap first (equal_of q p t) ∙ f)))
      (λ t g. of_given first P ps rest h.1 p tree g f)

  pub all_untouched : (stage : Stage) (effects : List Effect) (ps : List ℕ) (trees : Trees) → length (listed trees) ≡ length ps
      → AreLateOnes (λ tree. IsPure (begun tree) × ReadsApart stage effects (begun tree)) ps trees → AllUntouched stage effects (ways_of late ps trees) trees
  all_untouched stage effects [] no_trees e h = tt
  all_untouched stage effects [] (more_trees first rest) e h = absurd (cc)
  all_untouched stage effects (q ∷ ps) no_trees e h = absurd (cc)
  all_untouched stage effects (q ∷ ps) (more_trees first rest) e h = by_bool (late q) h.0 (all_untouched stage effects ps rest (cc) h.1)
    where
      by_bool : (b : Bool) → (b ≡ true → IsPure (begun first) × ReadsApart stage effects (begun first)) → AllUntouched stage effects (ways_of late ps rest) rest
          → AllUntouched stage effects (way_of b first ∷ ways_of late ps rest) (more_trees first rest)
      by_bool true f k = (refl, (f refl).0, (f refl).1, k)
      by_bool false f k = k
