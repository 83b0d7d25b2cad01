-- Which places store into an object, in an expression and in the operands that are unsequenced to it.
use Rattle.std.proofs.Common.{◌≡◌, ℕ, zero, suc, ◌+◌, ◌-◌, Bool, true, false, ◌&&◌, ◌||◌, not, List, [], ◌∷◌, ◌++◌, map, length, take, drop, Option, Some, slice_get, append_assoc, length-append, refl, sym, ap, ap₂, subst, ◌∙◌, arith}
use Rattle.std.specs.List.{list_any, flat_map}
use Rattle.std.proofs.lemmas.List.{map-append, take-map, drop-map}
use Rattle.std.proofs.lemmas.List.Folds.{list_any-append}
use Rattle.std.proofs.lemmas.Bool.{eq-eqb, ne_eqb}
use Rattle.dm_tree.specs.Paths.{nodes_in, all_in, all_in_trees}
use Rattle.dm_tree.specs.Trees.{Label, Spans, Tree, node, label_of, spans_of, parts_of}
use Rattle.dm_tree.specs.Units.{Declaration, TypedUnit}
use Rattle.dm_meaning.specs.Wholes.{all_expressions}
use Rattle.dm_effect.specs.Entities.{writes, writes_here}
use Rattle.dm_effect.specs.Sequencing.{around}
use Rattle.dm_sites.specs.Sites.{Site, operand_site, operand_sites, sites_in, all_sites, sites_of_unit}
use Rattle.dm_sites.proofs.LeadLemmas.{fit-at, unit-fits}
use Rattle.dm_sites.proofs.PlaceLemmas.{tree_of}
use Rattle.dm_around.specs.declared.links.Link.{Link}
use Rattle.dm_around.specs.Places.{IsPart, nodes_before, number_at}
use Rattle.dm_around.specs.Surroundings.{any_beside, any_other, FitsLink, link_at}
use Rattle.dm_around.specs.Writes.{AreStores, is_between, numbers_of, writes_at}
use Rattle.dm_around.proofs.BesideLemmas.{around-asked}
use Rattle.dm_around.proofs.EndLemmas.{stand-behind}
use Rattle.dm_around.proofs.NumberLemmas.{between}
use Rattle.dm_around.proofs.RootLemmas.{place-within}
use Rattle.dm_around.proofs.WalkLemmas.{drop-more, first-expression, expression-parts, nodes-whole, site-trees, nodes-all, head-at}

-- ---- lists

module _ {A : Type 0} where
  take-front : (front back : List A) → take (length front) (front ++ back) ≡ front
  take-front [] back = refl
  take-front (x ∷ front) back = ap (λ (them : List A). x ∷ them) (take-front front back)

  drop-front : (front back : List A) → drop (length front) (front ++ back) ≡ back
  drop-front [] back = refl
  drop-front (x ∷ front) back = drop-front front back

  -- what stands in the middle, behind so many
  pub middle : (all : List A) (from : ℕ) (front mid back : List A) → drop from all ≡ front ++ (mid ++ back) → (low high : ℕ) → low ≡ from + length front → high ≡ low + length mid
      → take (high - low) (drop low all) ≡ mid
  middle all from front mid back is low high at end =
      let count : high - low ≡ length mid = omega (arith, end) in
      ap₂ (λ (n m : ℕ). take n (drop m all)) count at
      ∙ (ap (take (length mid)) (drop-more from (length front) all ∙ (ap (drop (length front)) is ∙ drop-front front (mid ++ back))) ∙ take-front mid back)

-- ---- the nodes in trees

abbrev nodes : List Tree → List Tree
nodes trees = flat_map all_in trees

written-among : (d : ℕ) (trees : List Tree) → list_any (writes_here d) (nodes trees) ≡ list_any (writes d) trees
written-among d [] = refl
written-among d (tree ∷ trees) = list_any-append (writes_here d) (all_in tree) (nodes trees) ∙ ap (λ (b : Bool). writes d tree || b) (written-among d trees)

-- the trees in front of a part, and those behind it
abbrev fore : ℕ → List Tree → List Tree
fore k parts = take k parts

abbrev rear : ℕ → List Tree → List Tree
rear k parts = drop (suc k) parts

count-fore : (k : ℕ) (parts : List Tree) → length (nodes (fore k parts)) ≡ nodes_before k parts
count-fore zero parts = refl
count-fore (suc k) [] = refl
count-fore (suc k) (part ∷ parts) =
    length-append (all_in part) (nodes (fore k parts)) ∙ ap₂ (λ (a b : ℕ). a + b) (nodes-all part) (count-fore k parts)

count-all : (parts : List Tree) → length (nodes parts) ≡ nodes_before (length parts) parts
count-all [] = refl
count-all (part ∷ parts) = length-append (all_in part) (nodes parts) ∙ ap₂ (λ (a b : ℕ). a + b) (nodes-all part) (count-all parts)

split-nodes : (k : ℕ) (parts : List Tree) (part : Tree) → slice_get parts k ≡ Some part → nodes parts ≡ nodes (fore k parts) ++ (all_in part ++ nodes (rear k parts))
split-nodes k [] part is = absurd (cc)
split-nodes zero (first ∷ parts) part is =
    let same : first ≡ part = cc in ap (λ (one : Tree). all_in one ++ nodes parts) same
split-nodes (suc k) (first ∷ parts) part is =
    ap (λ (them : List Tree). all_in first ++ them) (split-nodes k parts part is)
    ∙ sym (append_assoc (all_in first) (nodes (fore k parts)) (all_in part ++ nodes (rear k parts)))

-- ---- the others among some parts

module _ (test : Tree → Bool) where
  passed-all : (n j : ℕ) (parts : List Tree) → ((m : ℕ) → n ≡ j + m → ⊥) → any_other test n j parts ≡ list_any test parts
  passed-all n j [] none = refl
  passed-all n j (part ∷ parts) none =
      ap₂ (λ (a b : Bool). (not a && test part) || b)
      (ne_eqb j n (λ same. none 0 (omega (arith, same))))
      (passed-all n (suc j) parts (λ m same. none (suc m) (omega (arith, same))))

  pub others-are : (k j : ℕ) (parts : List Tree) → any_other test (j + k) j parts ≡ (list_any test (fore k parts) || list_any test (rear k parts))
  others-are zero j [] = refl
  others-are (suc k) j [] = refl
  others-are zero j (part ∷ parts) =
      ap₂ (λ (a b : Bool). (not a && test part) || b)
      (eq-eqb j (j + 0) (omega arith))
      (passed-all (j + 0) (suc j) parts (λ m same. omega (arith, same)))
  others-are (suc k) j (part ∷ parts) =
      let next : j + suc k ≡ suc j + k = omega arith in
      ap (λ (a : Bool). (not a && test part) || any_other test (j + suc k) (suc j) parts) (ne_eqb j (j + suc k) (λ same. omega (arith, same)))
      ∙ (ap (λ (n : ℕ). test part || any_other test n (suc j) parts) next
      ∙ (ap (λ (b : Bool). test part || b) (others-are k (suc j) parts) ∙ sym (or-assoc (test part) (list_any test (fore k parts)) (list_any test (rear k parts)))))
    where
      or-assoc : (p q r : Bool) → ((p || q) || r) ≡ (p || (q || r))
      or-assoc true q r = refl
      or-assoc false q r = refl

-- ---- the trees at places

parts-trees : (declared : List Declaration) (site : Site) (label : Label) (spans : Spans) (j : ℕ) (parts : List Tree) → all_expressions parts ≡ true
    → map tree_of (all_sites declared (operand_sites site label spans j parts)) ≡ nodes parts
parts-trees declared site label spans j [] plain = refl
parts-trees declared site label spans j (part ∷ parts) plain =
    let both = first-expression part parts plain in
    let one = operand_site site label spans j part in
    map-append tree_of (sites_in declared part one) (all_sites declared (operand_sites site label spans (suc j) parts))
    ∙ ap₂ (λ (a b : List Tree). a ++ b) (site-trees declared one both.0) (parts-trees declared site label spans (suc j) parts both.1)

-- a tree at a place is that of a place
tree-at : (sites : List Site) (n : ℕ) (tree : Tree) → slice_get (map tree_of sites) n ≡ Some tree → (site : Site) × (slice_get sites n ≡ Some site) × (site.tree ≡ tree)
tree-at [] n tree is = absurd (cc)
tree-at (site ∷ sites) zero tree is = (site, refl, cc)
tree-at (site ∷ sites) (suc n) tree is = tree-at sites n tree is

led : (tree : Tree) (back : List Tree) → (rest : List Tree) × ((all_in tree ++ back) ≡ tree ∷ rest)
led (node label kind spans parts) back = (all_in_trees parts ++ back, refl)

head-tree : (trees : List Tree) (from : ℕ) (front back : List Tree) (tree : Tree) → drop from trees ≡ front ++ (all_in tree ++ back) → slice_get trees (from + length front) ≡ Some tree
head-tree trees from front back tree is =
    let first = led tree back in
    head-at trees (from + length front) tree first.0
    (drop-more from (length front) trees ∙ (ap (drop (length front)) is ∙ (drop-front front (all_in tree ++ back) ∙ first.1)))

module _ (one : TypedUnit) (d : ℕ) where
  abbrev all : List Site
  all = sites_of_unit one

  abbrev there : List Tree
  there = map tree_of all

  -- stores among the places between two bounds
  abbrev counts : List ℕ → ℕ → ℕ → Bool
  counts row from to = list_any (is_between from to) row

  asked-trees : (sites : List Site) → list_any (writes_at d) sites ≡ list_any (writes_here d) (map tree_of sites)
  asked-trees [] = refl
  asked-trees (site ∷ sites) = ap (λ (b : Bool). writes_here d site.tree || b) (asked-trees sites)

  stores-between : (row : List ℕ) → row ≡ numbers_of (writes_at d) 0 all → (from to : ℕ) → counts row from to ≡ list_any (writes_here d) (take (to - from) (drop from there))
  stores-between row is from to =
      ap (λ (them : List ℕ). counts them from to) is
      ∙ (between (writes_at d) from to all
      ∙ (asked-trees (take (to - from) (drop from all))
      ∙ ap (list_any (writes_here d)) (sym (take-map tree_of (to - from) (drop from all)) ∙ ap (take (to - from)) (sym (drop-map tree_of from all)))))

  module _ (row ends : List ℕ) (links : List (Option Link)) (h : AreStores one d row ends links) where
    -- in the expression at a place
    pub stored-within : (n : ℕ) (site : Site) → slice_get all n ≡ Some site → counts row n (number_at ends n) ≡ writes d site.tree
    stored-within n site got =
        let within = place-within one n site h.plain got in
        let trees : drop n there ≡ [] ++ (all_in site.tree ++ map tree_of within.0) =
        drop-map tree_of n all
        ∙ (ap (map tree_of) within.1
        ∙ (map-append tree_of (sites_in one.declared site.tree site) within.0 ∙ ap (λ (them : List Tree). them ++ map tree_of within.0) (site-trees one.declared site (h.plain n site got)))) in
        let count = nodes-all site.tree in
        let end = h.ended n site got in
        stores-between row h.stored n (number_at ends n)
        ∙ ap (list_any (writes_here d)) (middle there n [] (all_in site.tree) (map tree_of within.0) trees n (number_at ends n) (omega arith) (omega (arith, end, count)))

    -- in the other operands
    pub stored-beside : (above n : ℕ) (site : Site) (part : IsPart all above n site)
        → (counts row (above + 1) n || counts row (number_at ends n) (number_at ends above)) ≡ any_other (writes d) part.part 0 (parts_of part.upper.tree)
    stored-beside above n site part =
        let upper = part.upper in
        let parts = parts_of upper.tree in
        let k = part.part in
        let plain = expression-parts upper.tree (h.plain above upper part.there) in
        let behind = stand-behind one above upper h.plain part.there in
        let rest = map tree_of behind.0 in
        let front = nodes (fore k parts) in
        let own = all_in site.tree in
        let back = nodes (rear k parts) in
        let whole : drop (suc above) there ≡ front ++ (own ++ (back ++ rest)) =
        drop-map tree_of (suc above) all
        ∙ (ap (map tree_of) behind.1
        ∙ (map-append tree_of (all_sites one.declared (operand_sites upper (label_of upper.tree) (spans_of upper.tree) 0 parts)) behind.0
        ∙ (ap (λ (them : List Tree). them ++ rest) (parts-trees one.declared upper (label_of upper.tree) (spans_of upper.tree) 0 parts plain ∙ split-nodes k parts site.tree part.below)
        ∙ (append_assoc front (own ++ back) rest ∙ ap (λ (them : List Tree). front ++ them) (append_assoc own back rest))))) in
        let before = count-fore k parts in
        let inside = nodes-all site.tree in
        let at = part.behind in
        let start : n ≡ suc above + length front = omega (arith, at, before) in
        let here = tree-at all n site.tree (ap (slice_get there) start ∙ head-tree there (suc above) front (back ++ rest) site.tree whole) in
        let size = ap nodes_in here.2 in
        let known = h.ended n here.0 here.1 in
        let end : number_at ends n ≡ n + length own = omega (arith, known, size, inside) in
        let total = ap (λ (them : List Tree). length them) (split-nodes k parts site.tree part.below) ∙ length-append front (own ++ back) in
        let both = length-append own back in
        let every = count-all parts in
        let size_above = nodes-whole upper.tree in
        let known_above = h.ended above upper part.there in
        let last : number_at ends above ≡ number_at ends n + length back = omega (arith, end, start, total, both, every, size_above, known_above) in
        let join : front ++ (own ++ (back ++ rest)) ≡ (front ++ own) ++ (back ++ rest) = sym (append_assoc front own (back ++ rest)) in
        let joined = length-append front own in
        let none : k ≡ 0 + k = omega arith in
        ap₂ (λ (a b : Bool). a || b)
        (stores-between row h.stored (above + 1) n
        ∙ (ap (list_any (writes_here d)) (middle there (suc above) [] front (own ++ (back ++ rest)) whole (above + 1) n (omega arith) (omega (arith, start))) ∙ written-among d (fore k parts)))
        (stores-between row h.stored (number_at ends n) (number_at ends above)
        ∙ (ap (list_any (writes_here d)) (middle there (suc above) (front ++ own) back rest (whole ∙ join) (number_at ends n) (number_at ends above) (omega (arith, start, end, joined)) last) ∙ written-among d (rear k parts)))
        ∙ sym (ap (λ (n : ℕ). any_other (writes d) n 0 parts) none ∙ others-are (writes d) k 0 parts)

    -- one expression up
    pub up-link : (at : ℕ) (here : Site) (link : Link) → slice_get all at ≡ Some here → link_at links at ≡ Some link
        → (upper : Site) × (slice_get all link.above ≡ Some upper)
        × (any_beside (writes d) here ≡ ((counts row (link.above + 1) link.part || counts row (number_at ends link.part) (number_at ends link.above)) || any_beside (writes d) upper))
    up-link at here link got is =
        let fits : FitsLink all here (Some link) = subst (FitsLink all here) is (h.linked at here got) in (
          fits.operands.upper,
          fits.operands.there,
          fits.beside (writes d) ∙ ap (λ (b : Bool). b || any_beside (writes d) fits.operands.upper) (sym (stored-beside link.above link.part fits.operand fits.operands)),
        )

    pub around-own : (n : ℕ) (site : Site) → slice_get all n ≡ Some site
        → list_any (writes d) (around site.path site.full) ≡ (counts row n (number_at ends n) || any_beside (writes d) site)
    around-own n site got =
        around-asked (writes d) site (fit-at all n site (unit-fits one) got).0 ∙ ap (λ (b : Bool). b || any_beside (writes d) site) (sym (stored-within n site got))
