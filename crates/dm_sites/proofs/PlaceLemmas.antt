-- Places of parts, and the trees that have them.
use Rattle.std.proofs.Common.{◌≡◌, ℕ, ◌+◌, suc, Bool, true, false, cond, List, [], ◌∷◌, ◌++◌, map, reverse, take, drop, length, append_assoc, refl, sym, ap, ap₂, ◌∙◌, arith}
use Rattle.std.specs.List.{flat_map, sum_by}
use Rattle.std.proofs.lemmas.List.{map-append, reverse-append, reverse-reverse, take-append-drop}
use Rattle.std.proofs.lemmas.List.Concat.{flat_map-append}
use Rattle.std.proofs.lemmas.List.Sums.{sum_by-append, sum_by-cons}
use Rattle.dm_tree.specs.Paths.{nodes_in, nodes_in_trees}
use Rattle.dm_tree.specs.Trees.{Label, declare, case, Spans, Tree, Trees, node, no_trees, more_trees, label_of, spans_of, trees_of, listed, parts_of, is_statement}
use Rattle.dm_tree.specs.Units.{Declaration}
use Rattle.dm_meaning.specs.Statements.{Local, with_expressions}
use Rattle.dm_sites.specs.Sites.{Site, whole, initial_sites, declarator_sites, statement_parts, operand_site, operand_sites, part_sites, own_site, sites_in, sites_below, all_sites}

abbrev pub tree_of : Site → Tree
tree_of site = site.tree

-- ---- lists

pub reversed-first : {S : Type 0} (x : S) (xs : List S) → reverse (x ∷ xs) ≡ reverse xs ++ x ∷ []
reversed-first x xs = reverse-append (x ∷ []) xs

pub reversed-last : {S : Type 0} (xs : List S) (x : S) → reverse (xs ++ x ∷ []) ≡ x ∷ reverse xs
reversed-last xs x = reverse-append xs (x ∷ [])

-- one is taken off the end of what is left, and put behind what was taken
pub pushed : {S : Type 0} (taken left : List S) (one : S) → (taken ++ one ∷ []) ++ reverse left ≡ taken ++ reverse (left ++ one ∷ [])
pushed taken left one = append_assoc taken (one ∷ []) (reverse left) ∙ ap (λ rest. taken ++ rest) (sym (reversed-last left one))

sum-reverse : {S : Type 0} (f : S → ℕ) (xs : List S) → sum_by f (reverse xs) ≡ sum_by f xs
sum-reverse f [] = refl
sum-reverse f (x ∷ xs) =
    let first = ap (sum_by f) (reversed-first x xs) in
    let both = sum_by-append f (reverse xs) (x ∷ []) in
    let rest = sum-reverse f xs in
    let whole = sum_by-cons f x xs in
    let alone = sum_by-cons f x [] in
    let none : sum_by f [] ≡ 0 = refl in
    omega (arith, first, both, rest, whole, alone, none)

-- ---- trees at places

pub whole-trees : (constant fixed : Bool) (parts : List Tree) → map tree_of (map (whole constant fixed) parts) ≡ parts
whole-trees constant fixed [] = refl
whole-trees constant fixed (part ∷ parts) = ap (λ rest. part ∷ rest) (whole-trees constant fixed parts)

pub operand-trees : (site : Site) (label : Label) (spans : Spans) (n : ℕ) (parts : List Tree) → map tree_of (operand_sites site label spans n parts) ≡ parts
operand-trees site label spans n [] = refl
operand-trees site label spans n (part ∷ parts) = ap (λ rest. part ∷ rest) (operand-trees site label spans (suc n) parts)

pub declarator-trees : (declared : List Declaration) (locals : List Local) → map tree_of (declarator_sites declared locals) ≡ flat_map (λ (one : Local). one.expressions) locals
declarator-trees declared [] = refl
declarator-trees declared (one ∷ locals) =
    map-append tree_of (initial_sites declared one) (declarator_sites declared locals)
    ∙ ap₂ (λ (front rest : List Tree). front ++ rest) (whole-trees false _ one.expressions) (declarator-trees declared locals)

-- the declarators of a declaration have all trees behind its lengths
abbrev pub Divides : Label → List Tree → Type 0
Divides (declare lengths declarators) parts = flat_map (λ (one : Local). one.expressions) (with_expressions declarators (drop lengths parts)) ≡ drop lengths parts
Divides label parts = Unit {0}

pub statement-trees : (declared : List Declaration) (label : Label) (parts : List Tree) → Divides label parts → map tree_of (statement_parts declared label parts) ≡ parts
statement-trees declared (declare lengths declarators) parts h =
    map-append tree_of (map (whole true false) (take lengths parts)) (declarator_sites declared (with_expressions declarators (drop lengths parts)))
    ∙ (ap₂ (λ (front rest : List Tree). front ++ rest) (whole-trees true false (take lengths parts)) (declarator-trees declared (with_expressions declarators (drop lengths parts)) ∙ h)
    ∙ take-append-drop lengths parts)
statement-trees declared case [] h = refl
statement-trees declared case (value ∷ parts) h = ap (λ rest. value ∷ rest) (whole-trees false false parts)
statement-trees declared label parts h = whole-trees false false parts

-- ---- the places in a tree are its own and those of its parts

below-all : (declared : List Declaration) (parts : Trees) (sites : List Site) → map tree_of sites ≡ listed parts → sites_below declared parts sites ≡ all_sites declared sites
below-all declared no_trees [] h = refl
below-all declared no_trees (site ∷ sites) h = absurd (cc)
below-all declared (more_trees first rest) [] h = absurd (cc)
below-all declared (more_trees first rest) (site ∷ sites) h =
    let here : site.tree ≡ first = cc in
    let behind : map tree_of sites ≡ listed rest = cc in
    ap₂ (λ (tree : Tree) (below : List Site). sites_in declared tree site ++ below) (sym here) (below-all declared rest sites behind)

sites-node : (declared : List Declaration) (tree : Tree) (site : Site)
    → sites_in declared tree site ≡ own_site (label_of tree) site ++ sites_below declared (trees_of tree) (part_sites declared site (label_of tree) (spans_of tree) (parts_of tree))
sites-node declared (node label kind spans parts) site = refl

abbrev chosen : List Declaration → Site → Bool → List Site
chosen declared site statement =
    (cond statement [] (site ∷ []))
    ++ all_sites declared (cond statement (statement_parts declared (label_of site.tree) (parts_of site.tree)) (operand_sites site (label_of site.tree) (spans_of site.tree) 0 (parts_of site.tree)))

module _ (declared : List Declaration) (site : Site) (divides : Divides (label_of site.tree) (parts_of site.tree)) where
  abbrev of_parts : Bool → List Site
  of_parts statement = cond statement (statement_parts declared (label_of site.tree) (parts_of site.tree)) (operand_sites site (label_of site.tree) (spans_of site.tree) 0 (parts_of site.tree))

  trees-by : (statement : Bool) → map tree_of (of_parts statement) ≡ parts_of site.tree
  trees-by true = statement-trees declared (label_of site.tree) (parts_of site.tree) divides
  trees-by false = operand-trees site (label_of site.tree) (spans_of site.tree) 0 (parts_of site.tree)

  sites-chosen : sites_in declared site.tree site ≡ chosen declared site (is_statement (label_of site.tree))
  sites-chosen =
      sites-node declared site.tree site
      ∙ ap (λ (below : List Site). own_site (label_of site.tree) site ++ below)
      (below-all declared (trees_of site.tree) (of_parts (is_statement (label_of site.tree))) (trees-by (is_statement (label_of site.tree))))

  pub statement-sites : is_statement (label_of site.tree) ≡ true → sites_in declared site.tree site ≡ [] ++ all_sites declared (statement_parts declared (label_of site.tree) (parts_of site.tree))
  statement-sites h = sites-chosen ∙ ap (chosen declared site) h

  pub expression-sites : is_statement (label_of site.tree) ≡ false → sites_in declared site.tree site ≡ (site ∷ []) ++ all_sites declared (operand_sites site (label_of site.tree) (spans_of site.tree) 0 (parts_of site.tree))
  expression-sites h = sites-chosen ∙ ap (chosen declared site) h

-- ---- nodes

abbrev pub nodes_at : Site → ℕ
nodes_at site = nodes_in site.tree

nodes-below : (parts : Trees) (sites : List Site) → map tree_of sites ≡ listed parts → sum_by nodes_at sites ≡ nodes_in_trees parts
nodes-below no_trees [] h = refl
nodes-below no_trees (site ∷ sites) h = absurd (cc)
nodes-below (more_trees first rest) [] h = absurd (cc)
nodes-below (more_trees first rest) (site ∷ sites) h =
    let here : site.tree ≡ first = cc in
    let behind : map tree_of sites ≡ listed rest = cc in
    sum_by-cons nodes_at site sites ∙ ap₂ (λ (a b : ℕ). a + b) (ap nodes_in here) (nodes-below rest sites behind)

nodes-node : (tree : Tree) → nodes_in tree ≡ 1 + nodes_in_trees (trees_of tree)
nodes-node (node label kind spans parts) = refl

-- some that wait, with the parts of one behind them in place of it
pub nodes-fewer : (old parts : List Site) (tree : Tree) → map tree_of parts ≡ parts_of tree → sum_by nodes_at (old ++ reverse parts) + 1 ≡ sum_by nodes_at old + nodes_in tree
nodes-fewer old parts tree h =
    let both = sum_by-append nodes_at old (reverse parts) in
    let turned = sum-reverse nodes_at parts in
    let below = nodes-below (trees_of tree) parts h in
    let whole = nodes-node tree in
    omega (arith, both, turned, below, whole)

-- ---- what is left of a walk

regrouped : (found own a b rest : List Site) → found ++ (((own ++ a) ++ b) ++ rest) ≡ (found ++ own) ++ ((a ++ b) ++ rest)
regrouped found own a b rest = simp append_assoc

-- the last of those that wait is found, or is none itself, and its parts wait
pub step-left : (declared : List Declaration) (all rest found front parts own : List Site) (site : Site) → sites_in declared site.tree site ≡ own ++ all_sites declared parts
    → all ≡ found ++ (all_sites declared (reverse (front ++ site ∷ [])) ++ rest)
    → all ≡ (found ++ own) ++ (all_sites declared (reverse (front ++ reverse parts)) ++ rest)
step-left declared all rest found front parts own site is left =
    left
    ∙ (ap (λ (them : List Site). found ++ (all_sites declared them ++ rest)) (reversed-last front site)
    ∙ (ap (λ (here : List Site). found ++ ((here ++ all_sites declared (reverse front)) ++ rest)) is
    ∙ (regrouped found own (all_sites declared parts) (all_sites declared (reverse front)) rest
    ∙ ap (λ (them : List Site). (found ++ own) ++ (them ++ rest))
    (sym (flat_map-append (λ (site : Site). sites_in declared site.tree site) parts (reverse front))
    ∙ ap (all_sites declared) (sym (reverse-append front (reverse parts) ∙ ap (λ (them : List Site). them ++ reverse front) (reverse-reverse parts)))))))

-- the one more operand has the number of those before it
pub operands-last : (site : Site) (label : Label) (spans : Spans) (n : ℕ) (parts : List Tree) (part : Tree)
    → operand_sites site label spans n (parts ++ part ∷ []) ≡ operand_sites site label spans n parts ++ operand_site site label spans (n + length parts) part ∷ []
operands-last site label spans n [] part = ap (λ m. operand_site site label spans m part ∷ []) (omega arith)
operands-last site label spans n (first ∷ parts) part =
    ap (λ rest. operand_site site label spans n first ∷ rest)
    (operands-last site label spans (suc n) parts part
    ∙ ap (λ m. operand_sites site label spans (suc n) parts ++ operand_site site label spans m part ∷ []) (omega arith))
