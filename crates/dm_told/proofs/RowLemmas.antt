-- Rows of trees, one behind the other, and the places in them.
--     InOrder lo hi trees      trees stand behind one another between two tokens
--     AllShort span trees      each is shorter than a span
--     row_known      the places in such trees, of which it is known where they stand in each
use Rattle.std.specs.Prelude.{◌≡◌, ℕ, ◌<◌, ◌≤◌, true, List, [], ◌∷◌, find, map, Some}
use Rattle.std.specs.List.{AllByRecursion}
use Rattle.std.proofs.Common.{arith, ⊎_elim}
use Rattle.dm_token.specs.declared.place.Span.{Span}
use Rattle.dm_tree.specs.Trees.{Label, Spans, Tree, spans_of}
use Rattle.dm_tree.specs.Units.{Declaration}
use Rattle.dm_meaning.specs.Wholes.{is_expression}
use Rattle.dm_sites.specs.Sites.{Site, is_site_of, sites_in, all_sites}
use Rattle.dm_scoped.specs.Spans.{IsShorter, EndBefore, AreInside}
use Rattle.dm_told.specs.Told.{Meet}
use Rattle.dm_told.proofs.FindLemmas.{all_append}
use Rattle.dm_told.proofs.OnlyLemmas.{Told, told_none, told_append, Each, each_weaker, each_append, IsIn, Region, wider, in_order}

abbrev pub tree_of : Site → Tree
tree_of site = site.tree

abbrev pub InOrder : ℕ → ℕ → List Tree → Type 0
InOrder lo hi [] = lo ≤ hi
InOrder lo hi (tree ∷ trees) = (lo ≤ (spans_of tree).outer.first) × InOrder (spans_of tree).outer.after hi trees

abbrev pub AllShort : Span → List Tree → Type 0
AllShort span [] = Unit {0}
AllShort span (tree ∷ trees) = IsShorter (spans_of tree).outer span × AllShort span trees

abbrev pub HasTokens : Tree → Type 0
HasTokens tree = (spans_of tree).outer.first < (spans_of tree).outer.after

pub order_bound : (lo hi : ℕ) (trees : List Tree) → AllByRecursion HasTokens trees → InOrder lo hi trees → lo ≤ hi
order_bound lo hi [] some h = h
order_bound lo hi (tree ∷ trees) some h =
    let first = some.0 in
    let begins = h.0 in
    let rest = order_bound (spans_of tree).outer.after hi trees some.1 h.1 in
    omega (arith, first, begins, rest)

-- what stands behind the last of them
pub order_before : (lo hi : ℕ) (tree : Tree) (trees : List Tree) (next : Tree) → EndBefore (tree ∷ trees) next → InOrder lo hi (tree ∷ trees) → InOrder lo (spans_of next).outer.first (tree ∷ trees)
order_before lo hi tree [] next ends h = (h.0, ends)
order_before lo hi tree (second ∷ trees) next ends h = (h.0, order_before (spans_of tree).outer.after hi second trees next ends h.1)

-- behind the first token of a node nothing has all its tokens
pub inside_order : (label : Label) (spans : Spans) (lo : ℕ) (trees : List Tree) → spans.inner.first < lo → AllByRecursion HasTokens trees → AreInside label spans lo trees
    → InOrder lo spans.inner.after trees × AllShort spans.inner trees
inside_order label spans lo [] low some h = (h, tt)
inside_order label spans lo (tree ∷ trees) low some h =
    ⊎_elim (λ same. let first = same.1 in absurd (omega (arith, low, first)))
    (λ apart.
    let begins = apart.0 in
    let tokens = some.0 in
    let rest = inside_order label spans (spans_of tree).outer.after trees (omega (arith, low, begins, tokens)) some.1 apart.2 in
    ((apart.0, rest.0), (apart.1, rest.1))) h

-- ---- places

abbrev pub IsAroundSite : Site → Type 0
IsAroundSite site = (spans_of site.tree).outer.first ≤ (spans_of site.tree).inner.first

module _ (declared : List Declaration) where
  -- in its own tree it is found, and what is found there has tokens of it
  abbrev pub MeetsParts : Site → Type 0
  MeetsParts site =
      (span : Span) → is_site_of span site ≡ true
      → (find (is_site_of span) (sites_in declared site.tree site) ≡ Some site)
      × ((part : Span) (other : Site) → find (is_site_of part) (sites_in declared site.tree site) ≡ Some other → Meet part span)

  abbrev pub IsSettled : Site → Type 0
  IsSettled site = IsAroundSite site × MeetsParts site × (is_expression site.tree ≡ true)

  abbrev pub IsSeated : Site → Type 0
  IsSeated site = IsSettled site × AllByRecursion IsSettled (sites_in declared site.tree site)

  -- the places in a tree, of which it is known where they stand
  pub record IsKnown (site : Site) : Type 0 where
    pub tokens : HasTokens site.tree
    pub arounds : AllByRecursion IsSeated (sites_in declared site.tree site)
    pub told : Told declared (sites_in declared site.tree site)
    pub region : Region (spans_of site.tree).outer.first (spans_of site.tree).outer.after (sites_in declared site.tree site)

  pub tokens_of : (sites : List Site) → AllByRecursion IsKnown sites → AllByRecursion HasTokens (map tree_of sites)
  tokens_of [] h = tt
  tokens_of (site ∷ sites) h = (h.0.tokens, tokens_of sites h.1)

  pub row_arounds : (sites : List Site) → AllByRecursion IsKnown sites → AllByRecursion IsSeated (all_sites declared sites)
  row_arounds [] h = tt
  row_arounds (site ∷ sites) h = all_append IsSeated (sites_in declared site.tree site) (all_sites declared sites) h.0.arounds (row_arounds sites h.1)

  pub row_known : (lo hi : ℕ) (sites : List Site) → AllByRecursion IsKnown sites → InOrder lo hi (map tree_of sites)
      → Told declared (all_sites declared sites) × Region lo hi (all_sites declared sites)
  row_known lo hi [] known h = (told_none declared, tt)
  row_known lo hi (site ∷ sites) known h =
      let outer = (spans_of site.tree).outer in
      let here = sites_in declared site.tree site in
      let rest = row_known outer.after hi sites known.1 h.1 in
      let bound = order_bound outer.after hi (map tree_of sites) (tokens_of sites known.1) h.1 in
      let begins = h.0 in
      let tokens = known.0.tokens in (
        told_append declared here (all_sites declared sites) known.0.told rest.0 (in_order outer.first outer.after hi here (all_sites declared sites) known.0.region rest.1),
        each_append (IsIn lo hi) here (all_sites declared sites) (wider outer.first outer.after lo hi begins bound here known.0.region)
            (wider outer.after hi lo hi (omega (arith, begins, tokens)) (omega arith) (all_sites declared sites) rest.1),
      )

  pub row_short : (span : Span) (sites : List Site) → AllByRecursion IsKnown sites → AllShort span (map tree_of sites) → Each (λ (it : Span). IsShorter it span) (all_sites declared sites)
  row_short span [] known h = tt
  row_short span (site ∷ sites) known h =
      let outer = (spans_of site.tree).outer in
      let short = h.0 in
      each_append (λ (it : Span). IsShorter it span) (sites_in declared site.tree site) (all_sites declared sites)
      (each_weaker (IsIn outer.first outer.after) (λ (it : Span). IsShorter it span) (λ it k. let low = k.0 in let high = k.2 in omega (arith, short, low, high)) (sites_in declared site.tree site) known.0.region)
      (row_short span sites known.1 h.1)
