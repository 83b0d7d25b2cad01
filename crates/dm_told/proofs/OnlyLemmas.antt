-- Lists of places of which the first one with certain tokens is the only one, and stands in each one that has all these tokens.
--     Only sites      so it is
--     Nests declared sites      so it stands
--     Told declared sites      both
--     Each P sites      tokens at which one of the places stands have a property
--     Region lo hi sites      they are some tokens from one number up to another
--     told_append      two lists one behind the other, which have no tokens in common
use Rattle.std.specs.Prelude.{◌≡◌, refl, ℕ, ◌+◌, ◌-◌, ◌<◌, ◌≤◌, Bool, true, false, ◌&&◌, ◌==◌, nat_le, List, [], ◌∷◌, ◌++◌, find, Option, Some, None, if◌then◌else◌}
use Rattle.std.specs.List.{AllByRecursion}
use Rattle.std.proofs.Common.{ap, sym, ◌∙◌, subst, arith}
use Rattle.std.proofs.lemmas.Bool.{false≢true, and_parts}
use Rattle.std.proofs.lemmas.Bool.Decides.{nat_tests}
use Rattle.dm_token.specs.declared.place.Span.{Span}
use Rattle.dm_tree.specs.Trees.{Spans, spans_of}
use Rattle.dm_tree.specs.Units.{Declaration}
use Rattle.dm_sites.specs.Sites.{Site, is_site_of, sites_in}
use Rattle.dm_sites.specs.Standing.{is_extent, is_value, stands}
use Rattle.dm_told.specs.Told.{IsInside}
use Rattle.dm_told.proofs.FindLemmas.{all_append, all_weaker, none_passes, found_has, found_in_front, found_behind}

abbrev pub Only : List Site → Type 0
Only sites =
    (span : Span) (found : Site) → find (is_site_of span) sites ≡ Some found → AllByRecursion (λ (s : Site). is_site_of span s ≡ true → found ≡ s) sites

-- no tokens are those of places in both lists
abbrev IsOther : Site → Site → Type 0
IsOther f s = (span : Span) → is_site_of span f ≡ true → is_site_of span s ≡ true → ⊥

abbrev AreOther : List Site → List Site → Type 0
AreOther front back = AllByRecursion (λ (f : Site). AllByRecursion (IsOther f) back) front

-- nor are those of a place in one list among those of one in the other
abbrev pub AreSeparate : Span → Span → Type 0
AreSeparate a b = (IsInside a b → ⊥) × (IsInside b a → ⊥)

abbrev pub IsDistinct : Site → Site → Type 0
IsDistinct f s = (span other : Span) → is_site_of span f ≡ true → is_site_of other s ≡ true → AreSeparate span other

abbrev pub AreDistinct : List Site → List Site → Type 0
AreDistinct front back = AllByRecursion (λ (f : Site). AllByRecursion (IsDistinct f) back) front

some_same : (x y : Site) → Some x ≡ Some y → x ≡ y
some_same x y e = cc

only_append : (front back : List Site) → Only front → Only back → AreOther front back → Only (front ++ back)
only_append front back own other apart span found e = by_front (find (is_site_of span) front) refl
  where
    by_front : (o : Option Site) → find (is_site_of span) front ≡ o → AllByRecursion (λ (s : Site). is_site_of span s ≡ true → found ≡ s) (front ++ back)
    by_front None is =
        all_append (λ (s : Site). is_site_of span s ≡ true → found ≡ s) front back
        (all_weaker (λ (s : Site). is_site_of span s ≡ true → ⊥) (λ (s : Site). is_site_of span s ≡ true → found ≡ s) (λ s no k. absurd (no k)) front (none_passes (is_site_of span) front is))
        (other span found (sym (found_behind (is_site_of span) front back is) ∙ e))
    by_front (Some f) is =
        let same = some_same f found (sym (found_in_front (is_site_of span) front back f is) ∙ e) in
        let both = found_has (is_site_of span) (λ (s : Site). AllByRecursion (IsOther s) back) front f apart is in
        subst (λ (it : Site). AllByRecursion (λ (s : Site). is_site_of span s ≡ true → it ≡ s) (front ++ back)) same
        (all_append (λ (s : Site). is_site_of span s ≡ true → f ≡ s) front back (own span f is)
        (all_weaker (IsOther f) (λ (s : Site). is_site_of span s ≡ true → f ≡ s) (λ s no k. absurd (no span both.1 k)) back both.0))

-- so the one that is found is the place itself
pub only_found : (sites : List Site) → Only sites → (span : Span) → AllByRecursion (λ (s : Site). is_site_of span s ≡ true → find (is_site_of span) sites ≡ Some s) sites
only_found sites only span = by_found (find (is_site_of span) sites) refl
  where
    by_found : (o : Option Site) → find (is_site_of span) sites ≡ o → AllByRecursion (λ (s : Site). is_site_of span s ≡ true → find (is_site_of span) sites ≡ Some s) sites
    by_found None e =
        all_weaker (λ (s : Site). is_site_of span s ≡ true → ⊥) (λ (s : Site). is_site_of span s ≡ true → find (is_site_of span) sites ≡ Some s) (λ s no k. absurd (no k)) sites
        (none_passes (is_site_of span) sites e)
    by_found (Some found) e =
        all_weaker (λ (s : Site). is_site_of span s ≡ true → found ≡ s) (λ (s : Site). is_site_of span s ≡ true → find (is_site_of span) sites ≡ Some s) (λ s same k. e ∙ ap Some (same k)) sites
        (only span found e)

-- ---- one in the other

-- what these tokens find is found in the tree of each that has them all
module _ (declared : List Declaration) where
  abbrev Holds : Span → Site → Site → Type 0
  Holds part found s = (span : Span) → is_site_of span s ≡ true → IsInside part span → find (is_site_of part) (sites_in declared s.tree s) ≡ Some found

  abbrev pub Nests : List Site → Type 0
  Nests sites = (part : Span) (found : Site) → find (is_site_of part) sites ≡ Some found → AllByRecursion (Holds part found) sites

  abbrev pub Told : List Site → Type 0
  Told sites = Only sites × Nests sites

  pub told_none : Told []
  told_none = (λ span found e. tt, λ part found e. tt)

  nests_append : (front back : List Site) → Nests front → Nests back → AreDistinct front back → Nests (front ++ back)
  nests_append front back own other apart part found e = by_front (find (is_site_of part) front) refl
    where
      by_front : (o : Option Site) → find (is_site_of part) front ≡ o → AllByRecursion (Holds part found) (front ++ back)
      by_front (Some f) is =
          let same = some_same f found (sym (found_in_front (is_site_of part) front back f is) ∙ e) in
          let it = found_has (is_site_of part) (λ (s : Site). AllByRecursion (IsDistinct s) back) front f apart is in
          all_append (Holds part found) front back (own part found (is ∙ ap Some same))
          (all_weaker (IsDistinct f) (Holds part found) (λ s no span k inside. absurd ((no part span it.1 k).0 inside)) back it.0)
      by_front None is =
          let there = sym (found_behind (is_site_of part) front back is) ∙ e in
          all_append (Holds part found) front back
          (all_weaker (λ (f : Site). AllByRecursion (IsDistinct f) back) (Holds part found) (λ f no span k inside.
          let it = found_has (is_site_of part) (IsDistinct f) back found no there in
          absurd ((it.0 span part k it.1).1 inside)) front apart) (other part found there)

  -- tokens are not among themselves
  distinct_other : (front back : List Site) → AreDistinct front back → AreOther front back
  distinct_other front back h =
      all_weaker (λ (f : Site). AllByRecursion (IsDistinct f) back) (λ (f : Site). AllByRecursion (IsOther f) back)
      (λ f k. all_weaker (IsDistinct f) (IsOther f) (λ s no span a b. (no span span a b).0 (omega arith, omega arith)) back k) front h

  pub told_append : (front back : List Site) → Told front → Told back → AreDistinct front back → Told (front ++ back)
  told_append front back own other apart = (only_append front back own.0 other.0 (distinct_other front back apart), nests_append front back own.1 other.1 apart)

  -- a place and those below it, none of which has all its tokens
  abbrev pub IsShortOf : Site → Site → Type 0
  IsShortOf site s = (span other : Span) → is_site_of span site ≡ true → is_site_of other s ≡ true → IsInside span other → ⊥

  only_one : (site : Site) → Only (site ∷ [])
  only_one site span found e = ((λ is. by_test (is_site_of span site) is e), tt)
    where
      by_test : (b : Bool) → b ≡ true → (if b then Some site else None) ≡ Some found → found ≡ site
      by_test true is k = cc
      by_test false is k = absurd (false≢true is)

  pub told_own : (site : Site) (below : List Site) → sites_in declared site.tree site ≡ site ∷ below → Told below → AllByRecursion (IsShortOf site) below → Told (site ∷ below)
  told_own site below whole own short = (
    only_append (site ∷ []) below (only_one site) own.0
        (all_weaker (IsShortOf site) (IsOther site) (λ s no span a b. no span span a b (omega arith, omega arith)) below short, tt),
    λ part found e. (λ span k inside. ap (find (is_site_of part)) whole ∙ e, by_own part found (is_site_of part site) refl e),
  )
    where
      by_own : (part : Span) (found : Site) (b : Bool) → is_site_of part site ≡ b → (if b then Some site else find (is_site_of part) below) ≡ Some found → AllByRecursion (Holds part found) below
      by_own part found false is e = own.1 part found e
      by_own part found true is e = all_weaker (IsShortOf site) (Holds part found) (λ s no span k inside. absurd (no part span is k inside)) below short

-- ---- the tokens of places

abbrev pub Each : (Span → Type 0) → List Site → Type 0
Each P sites = AllByRecursion (λ (s : Site). (span : Span) → is_site_of span s ≡ true → P span) sites

pub each_weaker : (P Q : Span → Type 0) → ((span : Span) → P span → Q span) → (sites : List Site) → Each P sites → Each Q sites
each_weaker P Q f sites h =
    all_weaker (λ (s : Site). (span : Span) → is_site_of span s ≡ true → P span) (λ (s : Site). (span : Span) → is_site_of span s ≡ true → Q span) (λ s g span k. f span (g span k)) sites h

pub each_append : (P : Span → Type 0) (front back : List Site) → Each P front → Each P back → Each P (front ++ back)
each_append P front back h k = all_append (λ (s : Site). (span : Span) → is_site_of span s ≡ true → P span) front back h k

pub distinct : (P Q : Span → Type 0) → ((a b : Span) → P a → Q b → AreSeparate a b) → (front back : List Site) → Each P front → Each Q back → AreDistinct front back
distinct P Q apart [] back h k = tt
distinct P Q apart (f ∷ front) back h k = (
  all_weaker (λ (s : Site). (span : Span) → is_site_of span s ≡ true → Q span) (IsDistinct f) (λ s g span other is it. apart span other (h.0 span is) (g other it)) back k,
  distinct P Q apart front back h.1 k,
)

abbrev pub IsIn : ℕ → ℕ → Span → Type 0
IsIn lo hi span = (lo ≤ span.first) × (span.first < span.after) × (span.after ≤ hi)

abbrev pub Region : ℕ → ℕ → List Site → Type 0
Region lo hi sites = Each (IsIn lo hi) sites

pub wider : (lo hi low high : ℕ) → low ≤ lo → hi ≤ high → (sites : List Site) → Region lo hi sites → Region low high sites
wider lo hi low high below above sites h =
    each_weaker (IsIn lo hi) (IsIn low high) (λ span k. let a = k.0 in let b = k.2 in (omega (arith, a, below), k.1, omega (arith, b, above))) sites h

-- one with tokens that end before those of the other begin
pub separate : (a b : Span) → a.first < a.after → b.first < b.after → a.after ≤ b.first → AreSeparate a b
separate a b some more order =
    (λ inside. let low = inside.0 in let high = inside.1 in omega (arith, some, more, order, low, high), λ inside. let low = inside.0 in let high = inside.1 in omega (arith, some, more, order, low, high))

pub swapped : (a b : Span) → AreSeparate a b → AreSeparate b a
swapped a b h = (h.1, h.0)

pub in_order : (lo mid hi : ℕ) (front back : List Site) → Region lo mid front → Region mid hi back → AreDistinct front back
in_order lo mid hi front back h k =
    distinct (IsIn lo mid) (IsIn mid hi) (λ one other a b. let ends = a.2 in let begins = b.0 in separate one other a.1 b.1 (omega (arith, ends, begins))) front back h k

pub in_other_order : (lo mid hi : ℕ) (front back : List Site) → Region mid hi front → Region lo mid back → AreDistinct front back
in_other_order lo mid hi front back h k =
    distinct (IsIn mid hi) (IsIn lo mid) (λ one other b a. let ends = a.2 in let begins = b.0 in swapped other one (separate other one a.1 b.1 (omega (arith, ends, begins)))) front back h k

-- ---- the tokens of one place

-- a node has a token, and each pair of parentheses has one before its own tokens and one behind them
abbrev pub IsAround : Spans → Type 0
IsAround spans = (spans.outer.first ≤ spans.inner.first) × (spans.inner.first < spans.inner.after) × (spans.outer.first + spans.outer.after ≡ spans.inner.first + spans.inner.after)

abbrev pub IsExtent : Span → Spans → Type 0
IsExtent span spans = (spans.outer.first ≤ span.first) × (span.first ≤ spans.inner.first) × (span.first + span.after ≡ spans.inner.first + spans.inner.after)

pub extent_is : (span : Span) (spans : Spans) → is_extent span spans ≡ true → IsExtent span spans
extent_is span spans e =
    let first = and_parts (nat_le spans.outer.first span.first) (nat_le span.first spans.inner.first && (span.after == spans.inner.after + (spans.inner.first - span.first))) e in
    let second = and_parts (nat_le span.first spans.inner.first) (span.after == spans.inner.after + (spans.inner.first - span.first)) first.1 in
    let low : spans.outer.first ≤ span.first = grind (arith, nat_tests, first) in
    let mid : span.first ≤ spans.inner.first = grind (arith, nat_tests, second) in
    let high : span.after ≡ spans.inner.after + (spans.inner.first - span.first) = grind (arith, nat_tests, second) in
    (low, mid, omega (arith, mid, high))

-- what a place with these tokens is
pub site_is : (span : Span) (site : Site) → is_site_of span site ≡ true → (site.apart ≡ true) × (is_value site.tree ≡ true) × IsExtent span (spans_of site.tree)
site_is span site e =
    let own = and_parts site.apart (stands span site.tree) e in
    let both = and_parts (is_value site.tree) (is_extent span (spans_of site.tree)) own.1 in
    (own.0, both.0, extent_is span (spans_of site.tree) both.1)

-- tokens that are all of a node's own, and maybe some parentheses
abbrev pub HasAll : Spans → Span → Type 0
HasAll spans span = IsIn spans.outer.first spans.outer.after span × (span.first ≤ spans.inner.first) × (spans.inner.after ≤ span.after)

pub extent_has : (span : Span) (spans : Spans) → IsAround spans → IsExtent span spans → HasAll spans span
extent_has span spans around extent =
    let low = around.0 in
    let some = around.1 in
    let both = around.2 in
    let begins = extent.0 in
    let inner = extent.1 in
    let sum = extent.2 in (
      (begins, omega (arith, some, inner, sum), omega (arith, both, begins, sum)),
      inner,
      omega (arith, inner, sum),
    )
