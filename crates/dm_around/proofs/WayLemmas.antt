-- The ways to places, and what on them comes first.
use Rattle.std.proofs.Common.{◌≡◌, ℕ, zero, suc, ◌+◌, ◌-◌, ◌<◌, ◌≤◌, ◌⊎◌, inl, inr, Bool, true, false, cond, ◌&&◌, not, nat_le, nat_lt, List, [], ◌∷◌, ◌++◌, length, drop, Option, Some, None, slice_get, append_assoc, append-nil, length-append, refl, sym, ap, ap₂, subst, ◌∙◌, arith}
use Rattle.std.specs.Prelude.{option_and_then}
use Rattle.std.proofs.lemmas.Bool.{le-leb, lt-leb, leb-true, ltb-true, and_parts, cases_lt}
use Rattle.dm_type.specs.Tables.{Table, no_type}
use Rattle.dm_tree.specs.declared.unit.CoreUnit.{CoreUnit}
use Rattle.dm_tree.specs.Paths.{Path, nodes_in, tree_at, tree_in}
use Rattle.dm_tree.specs.Trees.{Label, Spans, Tree, Trees, node, no_trees, more_trees, label_of, trees_of, listed, parts_of, is_statement}
use Rattle.dm_tree.specs.Units.{Declaration, TypedUnit}
use Rattle.dm_tree.specs.Views.{view_of_unit}
use Rattle.dm_meaning.specs.Wholes.{is_expression, are_expressions}
use Rattle.dm_effect.specs.Entities.{passes}
use Rattle.dm_effect.specs.Sequencing.{comes_first, is_first}
use Rattle.dm_sites.specs.declared.site.Above.{Above}
use Rattle.dm_sites.specs.declared.site.Site.{Site as CodeSite}
use Rattle.dm_sites.specs.Links.{linked}
use Rattle.dm_sites.specs.Seen.{path_at, path_below, seen}
use Rattle.dm_sites.specs.Sites.{Site, operand_sites, statement_parts, sites_in, sites_below, sites_of_unit}
use Rattle.dm_sites.proofs.LeadLemmas.{fit-at, unit-fits}
use Rattle.dm_around.specs.declared.ways.Way.{Way}
use Rattle.dm_around.specs.Places.{ArePlain, AreEnds, AreParents, HasAbove, IsPart, number_at}
use Rattle.dm_around.specs.Ways.{FitsWay, no_way, further, way_at, way_from, way_below, is_in}
use Rattle.dm_around.proofs.LinkLemmas.{less-or-last}
use Rattle.dm_around.proofs.ParentLemmas.{all_of}
use Rattle.dm_around.proofs.RootLemmas.{place-within}
use Rattle.dm_around.proofs.WalkLemmas.{not-true, site-nodes}

-- ---- lists

module _ {A : Type 0} where
  nothing-behind : (front back : List A) → front ++ back ≡ [] → back ≡ []
  nothing-behind [] back is = is
  nothing-behind (x ∷ front) back is = absurd (cc)

  -- the last item is in the second part, or that part is empty
  pub parted : (before behind front : List A) (last : A) → before ++ behind ≡ front ++ last ∷ []
      → (behind ≡ []) ⊎ ((mid : List A) × (behind ≡ mid ++ last ∷ []) × (before ++ mid ≡ front))
  parted [] behind front last is = inr (front, is, refl)
  parted (x ∷ before) behind [] last is =
      let rest : before ++ behind ≡ [] = cc in inl (nothing-behind before behind rest)
  parted (x ∷ before) behind (y ∷ front) last is =
      let same : x ≡ y = cc in
      let rest : before ++ behind ≡ front ++ last ∷ [] = cc in
      go same (parted before behind front last rest)
    where
      go : x ≡ y → (behind ≡ []) ⊎ ((mid : List A) × (behind ≡ mid ++ last ∷ []) × (before ++ mid ≡ front))
          → (behind ≡ []) ⊎ ((mid : List A) × (behind ≡ mid ++ last ∷ []) × (x ∷ (before ++ mid) ≡ y ∷ front))
      go same (inl none) = inl none
      go same (inr some) = inr (some.0, some.1, ap₂ (λ (one : A) (them : List A). one ∷ them) same some.2)

  -- lists with one item behind them
  pub last-same : (front other : List A) (a b : A) → front ++ a ∷ [] ≡ other ++ b ∷ [] → a ≡ b
  last-same [] [] a b is = cc
  last-same [] (y ∷ other) a b is =
      let rest : other ++ b ∷ [] ≡ [] = cc in absurd (none other rest)
    where
      none : (other : List A) → other ++ b ∷ [] ≡ [] → ⊥
      none [] h = cc
      none (z ∷ other) h = cc
  last-same (x ∷ front) [] a b is =
      let rest : front ++ a ∷ [] ≡ [] = cc in absurd (none front rest)
    where
      none : (front : List A) → front ++ a ∷ [] ≡ [] → ⊥
      none [] h = cc
      none (z ∷ front) h = cc
  last-same (x ∷ front) (y ∷ other) a b is =
      let rest : front ++ a ∷ [] ≡ other ++ b ∷ [] = cc in last-same front other a b rest

  pub drop-whole : (front back : List A) → drop (length front) (front ++ back) ≡ back
  drop-whole [] back = refl
  drop-whole (x ∷ front) back = drop-whole front back

  slice-drop : (n k : ℕ) (all : List A) → slice_get (drop n all) k ≡ slice_get all (n + k)
  slice-drop zero k all = let same : k ≡ 0 + k = omega arith in ap (slice_get all) same
  slice-drop (suc n) k [] = refl
  slice-drop (suc n) k (x ∷ all) =
      let same : suc (n + k) ≡ suc n + k = omega arith in slice-drop n k all ∙ ap (slice_get (x ∷ all)) same

  slice-front : (front back : List A) (k : ℕ) → k < length front → slice_get (front ++ back) k ≡ slice_get front k
  slice-front [] back k less = absurd (omega (arith, less))
  slice-front (x ∷ front) back zero less = refl
  slice-front (x ∷ front) back (suc k) less = slice-front front back k (omega (arith, less))

-- ---- one part more at the end of a way

further-by : (n : ℕ) (way : Path) (last : ℕ) (tree upper part : Tree) (below : Option Tree) → tree_in (trees_of tree) n ≡ below
    → ((inner : Tree) → tree_at way inner ≡ Some upper → is_first (way ++ last ∷ []) inner ≡ (is_first way inner && comes_first (label_of upper) last))
    → option_and_then (tree_at way) below ≡ Some upper
    → (comes_first (label_of tree) n && passes (is_first (way ++ last ∷ [])) below) ≡ ((comes_first (label_of tree) n && passes (is_first way) below) && comes_first (label_of upper) last)
further-by n way last tree upper part None is goes h = absurd (cc)
further-by n way last tree upper part (Some inner) is goes h =
    ap (λ (b : Bool). comes_first (label_of tree) n && b) (goes inner h) ∙ sym (and-assoc (comes_first (label_of tree) n) (is_first way inner) (comes_first (label_of upper) last))
  where
    and-assoc : (p q r : Bool) → ((p && q) && r) ≡ (p && (q && r))
    and-assoc true q r = refl
    and-assoc false q r = refl

pub further-first : (way : Path) (last : ℕ) (tree upper part : Tree) → tree_at way tree ≡ Some upper → tree_in (trees_of upper) last ≡ Some part
    → is_first (way ++ last ∷ []) tree ≡ (is_first way tree && comes_first (label_of upper) last)
further-first [] last tree upper part h there =
    let same : tree ≡ upper = cc in
    ap (λ (one : Tree). comes_first (label_of one) last && passes (is_first []) (tree_in (trees_of one) last)) same
    ∙ (ap (λ (found : Option Tree). comes_first (label_of upper) last && passes (is_first []) found) there ∙ and-true (comes_first (label_of upper) last))
  where
    and-true : (p : Bool) → (p && true) ≡ p
    and-true true = refl
    and-true false = refl
further-first (n ∷ way) last tree upper part h there =
    further-by n way last tree upper part (tree_in (trees_of tree) n) refl (λ inner is. further-first way last inner upper part is there) h

tree-in : (trees : Trees) (n : ℕ) → tree_in trees n ≡ slice_get (listed trees) n
tree-in no_trees n = refl
tree-in (more_trees first rest) zero = refl
tree-in (more_trees first rest) (suc n) = tree-in rest n

-- a way in two parts
join-by : (way : Path) (tree : Tree) (below : Option Tree) (rest : Path) (end : Option Tree) → option_and_then (tree_at way) below ≡ Some tree
    → ((inner : Tree) → tree_at way inner ≡ Some tree → tree_at (way ++ rest) inner ≡ end) → option_and_then (tree_at (way ++ rest)) below ≡ end
join-by way tree None rest end h goes = absurd (cc)
join-by way tree (Some inner) rest end h goes = goes inner h

pub joined : (before rest : Path) (whole tree : Tree) → tree_at before whole ≡ Some tree → tree_at (before ++ rest) whole ≡ tree_at rest tree
joined [] rest whole tree h = let same : whole ≡ tree = cc in ap (tree_at rest) same
joined (n ∷ before) rest whole tree h = join-by before tree (tree_in (trees_of whole) n) rest (tree_at rest tree) h (λ inner is. joined before rest inner tree is)

-- ---- one place further

root-way : (site : Site) → site.path ≡ [] → FitsWay site no_way
root-way site root = record {
  long = sym (ap (λ (path : Path). length path) root);
  first = λ before behind tree split there.
      let none : before ++ behind ≡ [] = sym split ∙ root in
      let end = nothing-behind before behind none in
      ap (λ (way : Path). is_first way tree) end ∙ sym (le-leb 0 (length before) (omega arith));
}

module _ (upper site : Site) (way : Way) (k : ℕ) (leads : tree_at upper.path upper.full ≡ Some upper.tree) (fits : FitsWay upper way)
    (path : site.path ≡ upper.path ++ k ∷ []) (full : site.full ≡ upper.full) (part : Tree) (below : slice_get (parts_of upper.tree) k ≡ Some part) where
  low : way.gate ≤ way.depth
  low =
      let here = fits.first upper.path [] upper.tree (sym (append-nil upper.path)) leads in
      let long = fits.long in
      let le = leb-true way.gate (length upper.path) (sym here) in omega (arith, le, long)

  deep : length site.path ≡ way.depth + 1
  deep =
      let long = fits.long in
      let more = ap (λ (them : Path). length them) path ∙ length-append upper.path (k ∷ []) in omega (arith, long, more)

  not-deeper : (b : Bool) → cond b way.gate (way.depth + 1) ≤ way.depth + 1
  not-deeper true = let le = low in omega (arith, le)
  not-deeper false = omega arith

  -- on the way to the place there is a part more than on that to the place above
  inner-first : (before mid : Path) (tree : Tree) → before ++ mid ≡ upper.path → tree_at before site.full ≡ Some tree → (b : Bool) → comes_first (label_of upper.tree) k ≡ b
      → is_first (mid ++ k ∷ []) tree ≡ nat_le (cond b way.gate (way.depth + 1)) (length before)
  inner-first before mid tree split there b is =
      let above : tree_at before upper.full ≡ Some tree = ap (tree_at before) (sym full) ∙ there in
      let to_upper : tree_at mid tree ≡ Some upper.tree = sym (joined before mid upper.full tree above) ∙ (ap (λ (way : Path). tree_at way upper.full) split ∙ leads) in
      further-first mid k tree upper.tree part to_upper (tree-in (trees_of upper.tree) k ∙ below)
      ∙ (ap₂ (λ (p q : Bool). p && q) (fits.first before mid tree (sym split) above) is ∙ by b)
    where
      by : (b : Bool) → (nat_le way.gate (length before) && b) ≡ nat_le (cond b way.gate (way.depth + 1)) (length before)
      by true = and-true (nat_le way.gate (length before))
        where
          and-true : (p : Bool) → (p && true) ≡ p
          and-true true = refl
          and-true false = refl
      by false =
          let long = fits.long in
          let count = sym (ap (λ (them : Path). length them) split) ∙ length-append before mid in
          and-false (nat_le way.gate (length before)) ∙ sym (lt-leb (way.depth + 1) (length before) (omega (arith, long, count)))
        where
          and-false : (p : Bool) → (p && false) ≡ false
          and-false true = refl
          and-false false = refl

  pub next-way : FitsWay site (further way (comes_first (label_of upper.tree) k))
  next-way = record {
    long = sym deep;
    first = λ before behind tree split there. by before behind tree there (parted before behind upper.path k (sym split ∙ path)) split;
  }
    where
      by : (before behind : Path) (tree : Tree) → tree_at before site.full ≡ Some tree
          → (behind ≡ []) ⊎ ((mid : Path) × (behind ≡ mid ++ k ∷ []) × (before ++ mid ≡ upper.path)) → site.path ≡ before ++ behind
          → is_first behind tree ≡ nat_le (further way (comes_first (label_of upper.tree) k)).gate (length before)
      by before behind tree there (inl none) split =
          let le = not-deeper (comes_first (label_of upper.tree) k) in
          let long = deep in
          let count = ap (λ (them : Path). length them) split ∙ length-append before behind in
          let nothing = ap (λ (them : Path). length them) none in
          ap (λ (way : Path). is_first way tree) none ∙ sym (le-leb (further way (comes_first (label_of upper.tree) k)).gate (length before) (omega (arith, le, long, count, nothing)))
      by before behind tree there (inr some) split =
          ap (λ (way : Path). is_first way tree) some.1 ∙ inner-first before some.0 tree some.2 there (comes_first (label_of upper.tree) k) refl

-- ---- the ways to the places so far

pub record WaysSoFar (one : CoreUnit) (parents : List (Option ℕ)) (ways : List Way) : Type 0 where
  pub fit : (types : Table) → ArePlain (all_of types one) → AreParents (all_of types one) parents → (n : ℕ) (site : Site) → n < length ways → slice_get (all_of types one) n ≡ Some site
      → FitsWay site (way_at ways n)
  pub low : (n : ℕ) → (way_at ways n).depth ≤ n

way-front : (ways : List Way) (last : Way) (n : ℕ) → n < length ways → way_at (ways ++ last ∷ []) n ≡ way_at ways n
way-front [] last n less = absurd (omega (arith, less))
way-front (first ∷ ways) last zero less = refl
way-front (first ∷ ways) last (suc n) less = way-front ways last n (omega (arith, less))

way-last : (ways : List Way) (last : Way) → way_at (ways ++ last ∷ []) (length ways) ≡ last
way-last [] last = refl
way-last (first ∷ ways) last = way-last ways last

way-past : (ways : List Way) (n : ℕ) → length ways ≤ n → way_at ways n ≡ no_way
way-past [] n past = refl
way-past (first ∷ ways) zero past = absurd (omega (arith, past))
way-past (first ∷ ways) (suc n) past = way-past ways n (omega (arith, past))

module _ (one : CoreUnit) (ways : List Way) (site : CodeSite) (types : Table) where
  abbrev here : Site
  here = seen types (all_of types one) site

  -- the step by which the place is found is that to the part
  fits-by : (above : ℕ) (h : IsPart (all_of types one) above (length ways) here) → FitsWay h.upper (way_at ways above) → (step : Option Above) → site.above ≡ step
      → FitsWay here (way_from (Some h.upper) (way_at ways above) step)
  fits-by above h fits None is =
      let path : [] ≡ h.upper.path ++ h.part ∷ [] = sym (ap (path_below (all_of types one)) is) ∙ ap (λ (one : Site). one.path) h.same in
      absurd (none h.upper.path h.part (sym path))
    where
      none : (front : Path) (k : ℕ) → front ++ k ∷ [] ≡ [] → ⊥
      none [] k h = cc
      none (x ∷ front) k h = cc
  fits-by above h fits (Some step) is =
      let path : here.path ≡ h.upper.path ++ h.part ∷ [] = ap (λ (one : Site). one.path) h.same in
      let found : path_at (all_of types one) step.site ++ step.part ∷ [] ≡ h.upper.path ++ h.part ∷ [] = sym (ap (path_below (all_of types one)) is) ∙ path in
      let same = last-same (path_at (all_of types one) step.site) h.upper.path step.part h.part found in
      let full : here.full ≡ h.upper.full = ap (λ (one : Site). one.full) h.same in
      subst (λ (k : ℕ). FitsWay here (further (way_at ways above) (comes_first (label_of h.upper.tree) k))) (sym same)
      (next-way h.upper here (way_at ways above) h.part (fit-at (all_of types one) above h.upper (unit-fits (view_of_unit types one)) h.there).0 fits path full here.tree h.below)

  pub fits-next : (parent : Option ℕ) → HasAbove (all_of types one) parent (length ways) here
      → ((above : ℕ) (upper : Site) → above < length ways → slice_get (all_of types one) above ≡ Some upper → FitsWay upper (way_at ways above))
      → FitsWay here (way_below (all_of types one) ways parent site.above)
  fits-next None h known = root-way here h
  fits-next (Some above) h known =
      let before : above < length ways = let behind = h.behind in omega (arith, behind) in
      subst (λ (found : Option Site). FitsWay here (way_from found (way_at ways above) site.above)) (sym h.there)
      (fits-by above h (known above h.upper before h.there) site.above refl)

module _ (one : CoreUnit) (parents : List (Option ℕ)) (ways : List Way) (last : Way) (site : CodeSite) (h : WaysSoFar one parents ways)
    (before : (n above : ℕ) → linked parents n ≡ Some above → above < n)
    (there : (types : Table) → Some (seen types (all_of types one) site) ≡ slice_get (all_of types one) (length ways))
    (is : (types : Table) → last ≡ way_below (all_of types one) ways (linked parents (length ways)) site.above) where
  next-fit : (types : Table) → ArePlain (all_of types one) → AreParents (all_of types one) parents → (n : ℕ) (found : Site) → (n < length ways) ⊎ (n ≡ length ways) → slice_get (all_of types one) n ≡ Some found
      → FitsWay found (way_at (ways ++ last ∷ []) n)
  next-fit types plain known n found (inl less) got = subst (FitsWay found) (sym (way-front ways last n less)) (h.fit types plain known n found less got)
  next-fit types plain known n found (inr at) got =
      let both : Some (seen types (all_of types one) site) ≡ Some found = there types ∙ (ap (slice_get (all_of types one)) (sym at) ∙ got) in
      let same : seen types (all_of types one) site ≡ found = cc in
      subst (λ (way : Way). FitsWay found way) (sym (ap (way_at (ways ++ last ∷ [])) at ∙ (way-last ways last ∙ is types)))
      (subst (λ (one_site : Site). FitsWay one_site (way_below (all_of types one) ways (linked parents (length ways)) site.above)) same
      (fits-next one ways site types (linked parents (length ways)) (known (length ways) (seen types (all_of types one) site) (sym (there types))) (λ above upper less got. h.fit types plain known above upper less got)))

  low-from : (upper : Option Site) (way : Way) (step : Option Above) (n : ℕ) → way.depth < n → (way_from upper way step).depth ≤ n
  low-from None way step n less = omega arith
  low-from (Some upper) way None n less = omega arith
  low-from (Some upper) way (Some step) n less = omega (arith, less)

  low-below : (parent : Option ℕ) → linked parents (length ways) ≡ parent → (way_below (all_of no_type one) ways parent site.above).depth ≤ length ways
  low-below None some = omega arith
  low-below (Some above) some =
      let less = before (length ways) above some in
      let low = h.low above in
      low-from (slice_get (all_of no_type one) above) (way_at ways above) site.above (length ways) (omega (arith, less, low))

  next-low : (n : ℕ) → (n < length ways) ⊎ (length ways ≤ n) → (way_at (ways ++ last ∷ []) n).depth ≤ n
  next-low n (inl less) = let low = h.low n in let same = ap (λ (way : Way). way.depth) (way-front ways last n less) in omega (arith, low, same)
  next-low n (inr past) = by (cases_le (length ways) n past)
    where
      by : (n ≡ length ways) ⊎ (length ways + 1 ≤ n) → (way_at (ways ++ last ∷ []) n).depth ≤ n
      by (inl at) =
          let same = ap (λ (way : Way). way.depth) (ap (way_at (ways ++ last ∷ [])) at ∙ (way-last ways last ∙ is no_type)) in
          let low = low-below (linked parents (length ways)) refl in omega (arith, same, low, at)
      by (inr more) =
          let long = length-append ways (last ∷ []) in
          let same = ap (λ (way : Way). way.depth) (way-past (ways ++ last ∷ []) n (omega (arith, more, long))) in omega (arith, same)

      cases_le : (m n : ℕ) → m ≤ n → (n ≡ m) ⊎ (m + 1 ≤ n)
      cases_le m n le = go (less-or-last m n (omega (arith, le)))
        where
          go : (m < n) ⊎ (m ≡ n) → (n ≡ m) ⊎ (m + 1 ≤ n)
          go (inl less) = inr (omega (arith, less))
          go (inr same) = inl (sym same)

  pub ways-next : WaysSoFar one parents (ways ++ last ∷ [])
  ways-next = record {
    fit = λ types plain known n found less got.
        let more = length-append ways (last ∷ []) in next-fit types plain known n found (less-or-last n (length ways) (omega (arith, less, more))) got;
    low = λ n. next-low n (cases_lt n (length ways));
  }

-- ---- places inside others

-- the way leads on from the place of the whole
abbrev Under : Site → Site → Type 0
Under top site = (way : Path) × (site.path ≡ top.path ++ way) × (site.full ≡ top.full)

module _ (top : Site) where
  abbrev AllUnder : List Site → Type 0
  AllUnder [] = Unit {0}
  AllUnder (site ∷ sites) = Under top site × AllUnder sites

  under-append : (front back : List Site) → AllUnder front → AllUnder back → AllUnder (front ++ back)
  under-append [] back h k = k
  under-append (site ∷ front) back h k = (h.0, under-append front back h.1 k)

  under-at : (sites : List Site) (n : ℕ) (site : Site) → AllUnder sites → slice_get sites n ≡ Some site → Under top site
  under-at [] n site h is = absurd (cc)
  under-at (first ∷ sites) zero site h is =
      let same : first ≡ site = cc in subst (Under top) same h.0
  under-at (first ∷ sites) (suc n) site h is = under-at sites n site h.1 is

  operands-under : (site : Site) (label : Label) (spans : Spans) (j : ℕ) (parts : List Tree) → Under top site → AllUnder (operand_sites site label spans j parts)
  operands-under site label spans j [] h = tt
  operands-under site label spans j (part ∷ parts) h =
      ((h.0 ++ j ∷ [], ap (λ (path : Path). path ++ j ∷ []) h.1 ∙ append_assoc top.path h.0 (j ∷ []), h.2), operands-under site label spans (suc j) parts h)

  module _ (declared : List Declaration) where
    mutual
      tree-under : (tree : Tree) (site : Site) → is_expression tree ≡ true → Under top site → AllUnder (sites_in declared tree site)
      tree-under (node label kind spans parts) site plain h =
          let both = and_parts (not (is_statement label)) (are_expressions parts) plain in
          subst (λ (b : Bool). AllUnder ((cond b [] (site ∷ [])) ++ sites_below declared parts (cond b (statement_parts declared label (listed parts)) (operand_sites site label spans 0 (listed parts)))))
          (sym (not-true (is_statement label) both.0))
          (h, trees-under parts (operand_sites site label spans 0 (listed parts)) both.1 (operands-under site label spans 0 (listed parts) h))

      trees-under : (trees : Trees) (sites : List Site) → are_expressions trees ≡ true → AllUnder sites → AllUnder (sites_below declared trees sites)
      trees-under no_trees sites plain h = tt
      trees-under (more_trees first rest) [] plain h = tt
      trees-under (more_trees first rest) (site ∷ sites) plain h =
          let both = and_parts (is_expression first) (are_expressions rest) plain in
          under-append (sites_in declared first site) (sites_below declared rest sites) (tree-under first site both.0 h.0) (trees-under rest sites both.1 h.1)

module _ (one : TypedUnit) (plain : ArePlain (sites_of_unit one)) (r n : ℕ) (upper site : Site) (above : slice_get (sites_of_unit one) r ≡ Some upper) (there : slice_get (sites_of_unit one) n ≡ Some site) where
  pub inside : r ≤ n → n < r + nodes_in upper.tree → Under upper site
  inside le less =
      let within = place-within one r upper plain above in
      let places = sites_in one.declared upper.tree upper in
      let count = site-nodes one.declared upper (plain r upper above) in
      let at : r + (n - r) ≡ n = omega (arith, le) in
      let got : slice_get places (n - r) ≡ Some site =
      sym (slice-front places within.0 (n - r) (omega (arith, le, less, count)))
      ∙ (ap (λ (them : List Site). slice_get them (n - r)) (sym within.1) ∙ (slice-drop r (n - r) (sites_of_unit one) ∙ (ap (slice_get (sites_of_unit one)) at ∙ there))) in
      under-at upper places (n - r) site (tree-under upper one.declared upper.tree upper (plain r upper above) ([], sym (append-nil upper.path), refl)) got

  -- the way from the one to the other is told by the way to the other
  pub told-inside : (ends : List ℕ) (way : Way) → AreEnds (sites_of_unit one) ends → FitsWay site way → is_in ends r n ≡ true
      → is_first (drop (length upper.path) site.path) upper.tree ≡ nat_le way.gate (length upper.path)
  told-inside ends way ended fits is =
      let both = and_parts (nat_le r n) (nat_lt n (number_at ends r)) is in
      let end = ended r upper above in
      let le = leb-true r n both.0 in
      let less = ltb-true n (number_at ends r) both.1 in
      let under = inside le (omega (arith, less, end)) in
      let leads = (fit-at (sites_of_unit one) r upper (unit-fits one) above).0 in
      ap (λ (way : Path). is_first way upper.tree) (ap (drop (length upper.path)) under.1 ∙ drop-whole upper.path under.0)
      ∙ fits.first upper.path under.0 upper.tree under.1 (ap (tree_at upper.path) under.2 ∙ leads)
