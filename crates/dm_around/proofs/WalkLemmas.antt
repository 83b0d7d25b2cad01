-- The places of a unit one after another: behind each stand those inside its tree, and then those of the trees that wait.
use Rattle.std.proofs.Common.{◌≡◌, ℕ, zero, suc, ◌+◌, Bool, true, false, cond, not, ◌&&◌, List, [], ◌∷◌, ◌++◌, map, length, drop, Some, None, slice_get, refl, sym, ap, ap₂, ◌∙◌, arith}
use Rattle.std.proofs.lemmas.Bool.{and_parts}
use Rattle.std.proofs.lemmas.List.{map-append, length-map, length-append}
use Rattle.std.proofs.Math.Seq.{drop-append_seam}
use Rattle.dm_tree.specs.Paths.{nodes_in, nodes_in_trees, all_in, all_in_trees}
use Rattle.dm_tree.specs.Trees.{Label, declare, Tree, Trees, node, no_trees, more_trees, label_of, spans_of, listed, parts_of, is_statement}
use Rattle.dm_tree.specs.Units.{Declaration}
use Rattle.dm_meaning.specs.Wholes.{is_expression, are_expressions, all_expressions}
use Rattle.dm_sites.specs.Sites.{Site, operand_sites, statement_parts, sites_in, sites_below, all_sites}
use Rattle.dm_sites.proofs.PlaceLemmas.{tree_of, Divides, operand-trees, expression-sites}
use Rattle.dm_around.specs.Places.{nodes_before}

-- ---- lists

module _ {S : Type 0} where
  pub head-at : (all : List S) (n : ℕ) (x : S) (rest : List S) → drop n all ≡ x ∷ rest → slice_get all n ≡ Some x
  head-at [] zero x rest h = absurd (cc)
  head-at [] (suc n) x rest h = absurd (cc)
  head-at (y ∷ all) zero x rest h =
      let same : y ≡ x = cc in ap (λ (one : S). Some one) same
  head-at (y ∷ all) (suc n) x rest h = head-at all n x rest h

  pub at-head : (all : List S) (n : ℕ) (x : S) → slice_get all n ≡ Some x → drop n all ≡ x ∷ drop (suc n) all
  at-head [] n x h = absurd (cc)
  at-head (y ∷ all) zero x h =
      let same : y ≡ x = cc in ap (λ (one : S). one ∷ all) same
  at-head (y ∷ all) (suc n) x h = at-head all n x h

  pub none-behind : (all : List S) (n : ℕ) → slice_get all n ≡ None → drop (suc n) all ≡ []
  none-behind [] n h = refl
  none-behind (y ∷ all) zero h = absurd (cc)
  none-behind (y ∷ all) (suc n) h = none-behind all n h

  drop-nil : (n : ℕ) → drop {A = S} n [] ≡ []
  drop-nil zero = refl
  drop-nil (suc n) = refl

  pub drop-more : (n k : ℕ) (all : List S) → drop (n + k) all ≡ drop k (drop n all)
  drop-more zero k all = ap (λ (m : ℕ). drop m all) (omega arith)
  drop-more (suc n) k [] = drop-nil (suc n + k) ∙ sym (drop-nil k)
  drop-more (suc n) k (x ∷ all) =
      let one : suc n + k ≡ suc (n + k) = omega arith in ap (λ (m : ℕ). drop m (x ∷ all)) one ∙ drop-more n k all

  pub drop-front : (n k : ℕ) (all front rest : List S) → drop n all ≡ front ++ rest → length front ≡ k → drop (n + k) all ≡ rest
  drop-front n k all front rest h is =
      drop-more n k all ∙ (ap₂ (λ (m : ℕ) (them : List S). drop m them) (sym is) h ∙ drop-append_seam front rest)

-- ---- expressions

pub not-true : (b : Bool) → not b ≡ true → b ≡ false
not-true true h = absurd (cc)
not-true false h = refl

pub expression-label : (tree : Tree) → is_expression tree ≡ true → is_statement (label_of tree) ≡ false
expression-label (node label kind spans parts) h = not-true (is_statement label) (and_parts (not (is_statement label)) (are_expressions parts) h).0

expressions-below : (trees : Trees) → are_expressions trees ≡ true → all_expressions (listed trees) ≡ true
expressions-below no_trees h = refl
expressions-below (more_trees first rest) h =
    let both = and_parts (is_expression first) (are_expressions rest) h in
    ap₂ (λ (a b : Bool). a && b) both.0 (expressions-below rest both.1)

pub expression-parts : (tree : Tree) → is_expression tree ≡ true → all_expressions (parts_of tree) ≡ true
expression-parts (node label kind spans parts) h = expressions-below parts (and_parts (not (is_statement label)) (are_expressions parts) h).1

pub first-expression : (first : Tree) (rest : List Tree) → all_expressions (first ∷ rest) ≡ true → (is_expression first ≡ true) × (all_expressions rest ≡ true)
first-expression first rest h = and_parts (is_expression first) (all_expressions rest) h

divided : (label : Label) (parts : List Tree) → is_statement label ≡ false → Divides label parts
divided (declare lengths declarators) parts h = absurd (cc)
divided label parts h = tt

mutual
  pub nodes-all : (tree : Tree) → length (all_in tree) ≡ nodes_in tree
  nodes-all (node label kind spans parts) =
      let below = nodes-all-below parts in omega (arith, below)

  nodes-all-below : (trees : Trees) → length (all_in_trees trees) ≡ nodes_in_trees trees
  nodes-all-below no_trees = refl
  nodes-all-below (more_trees first rest) = length-append (all_in first) (all_in_trees rest) ∙ ap₂ (λ (a b : ℕ). a + b) (nodes-all first) (nodes-all-below rest)

-- all parts together
pub nodes-parts : (trees : Trees) → nodes_before (length (listed trees)) (listed trees) ≡ nodes_in_trees trees
nodes-parts no_trees = refl
nodes-parts (more_trees first rest) = ap (λ (n : ℕ). nodes_in first + n) (nodes-parts rest)

pub nodes-whole : (tree : Tree) → nodes_in tree ≡ 1 + nodes_before (length (parts_of tree)) (parts_of tree)
nodes-whole (node label kind spans parts) = ap (λ (n : ℕ). 1 + n) (sym (nodes-parts parts))

pub nodes-next : (n : ℕ) (parts : List Tree) (part : Tree) → slice_get parts n ≡ Some part → nodes_before (suc n) parts ≡ nodes_before n parts + nodes_in part
nodes-next n [] part h = absurd (cc)
nodes-next zero (first ∷ parts) part h =
    let same : first ≡ part = cc in let equal = ap nodes_in same in omega (arith, equal)
nodes-next (suc n) (first ∷ parts) part h =
    let behind = nodes-next n parts part h in omega (arith, behind)

-- ---- the places in an expression are those of its nodes

module _ (declared : List Declaration) where
  -- its own, and those of its parts
  pub sites-of : (site : Site) → is_expression site.tree ≡ true
      → sites_in declared site.tree site ≡ site ∷ all_sites declared (operand_sites site (label_of site.tree) (spans_of site.tree) 0 (parts_of site.tree))
  sites-of site plain =
      expression-sites declared site (divided (label_of site.tree) (parts_of site.tree) (expression-label site.tree plain)) (expression-label site.tree plain)

  mutual
    trees-in : (tree : Tree) (site : Site) → site.tree ≡ tree → is_expression tree ≡ true → map tree_of (sites_in declared tree site) ≡ all_in tree
    trees-in (node label kind spans parts) site same plain =
        let both = and_parts (not (is_statement label)) (are_expressions parts) plain in
        ap (λ (b : Bool). map tree_of ((cond b [] (site ∷ [])) ++ sites_below declared parts (cond b (statement_parts declared label (listed parts)) (operand_sites site label spans 0 (listed parts))))) (not-true (is_statement label) both.0)
        ∙ ap₂ (λ (one : Tree) (rest : List Tree). one ∷ rest) same (trees-below parts (operand_sites site label spans 0 (listed parts)) (operand-trees site label spans 0 (listed parts)) both.1)

    trees-below : (trees : Trees) (sites : List Site) → map tree_of sites ≡ listed trees → are_expressions trees ≡ true → map tree_of (sites_below declared trees sites) ≡ all_in_trees trees
    trees-below no_trees sites h plain = refl
    trees-below (more_trees first rest) [] h plain = absurd (cc)
    trees-below (more_trees first rest) (site ∷ sites) h plain =
        let here : site.tree ≡ first = cc in
        let behind : map tree_of sites ≡ listed rest = cc in
        let both = and_parts (is_expression first) (are_expressions rest) plain in
        map-append tree_of (sites_in declared first site) (sites_below declared rest sites)
        ∙ ap₂ (λ (front back : List Tree). front ++ back) (trees-in first site here both.0) (trees-below rest sites behind both.1)

  pub site-trees : (site : Site) → is_expression site.tree ≡ true → map tree_of (sites_in declared site.tree site) ≡ all_in site.tree
  site-trees site plain = trees-in site.tree site refl plain

  pub site-nodes : (site : Site) → is_expression site.tree ≡ true → length (sites_in declared site.tree site) ≡ nodes_in site.tree
  site-nodes site plain =
      sym (length-map (sites_in declared site.tree site) tree_of) ∙ (ap (λ (them : List Tree). length them) (site-trees site plain) ∙ nodes-all site.tree)
