-- The occurrences of a run's parameters stand in the run's tree, none of them in another.
--     occurrence_stands      one that is found by its tokens is among the trees at the occurrences of its parameter
--     all_stand      so it is for each occurrence of a run whose parts are apart
--     arguments_there      so each parameter that occurs has an argument
use Rattle.std.specs.Prelude.{◌≡◌, refl, ℕ, zero, suc, ◌+◌, ◌-◌, ◌<◌, ◌≤◌, ◌⊎◌, Bool, true, false, not, ◌&&◌, ◌||◌, ◌==◌, nat_le, List, [], ◌∷◌, ◌++◌, filter, find, flat_map, map, Option, Some, None, is_some, if◌then◌else◌}
use Rattle.std.specs.List.{AllByRecursion, list_any, list_all}
use Rattle.std.proofs.Common.{ap, sym, ◌∙◌, subst, arith, inl, inr}
use Rattle.std.proofs.lemmas.Bool.{true≢false, false≢true, and_parts, and_from, eq-eqb, eqb-true}
use Rattle.std.proofs.lemmas.Bool.Decides.{nat_tests}
use Rattle.dm_token.specs.declared.place.Span.{Span}
use Rattle.dm_runs.specs.declared.run.Occurrence.{Occurrence}
use Rattle.dm_runs.specs.declared.run.Run.{Run}
use Rattle.dm_apart.specs.Apart.{AreBeside, HasPartsApart, IsBeside, IsWithin}
use Rattle.dm_type.specs.CTypes.{CType}
use Rattle.dm_tree.specs.Initialisers.{is_same_span}
use Rattle.dm_tree.specs.Trees.{Label, Spans, Tree, Trees, node, no_trees, more_trees, spans_of, listed, is_statement}
use Rattle.dm_tree.specs.Units.{TypedUnit}
use Rattle.dm_meaning.specs.Among.{IsAmong}
use Rattle.dm_meaning.specs.Wholes.{is_expression, are_expressions}
use Rattle.dm_sites.specs.Sites.{Site, is_site_of, operand_site, operand_sites, statement_parts, sites_in, sites_below, site_of, sites_of_unit}
use Rattle.dm_sites.specs.Standing.{is_extent, is_value, is_apart}
use Rattle.dm_sites.specs.Standing as sites
use Rattle.dm_agree.specs.Standing.{widened, narrowing, extents, extents_of, stands, occurrences_with, occurrences_at, occurrences_below}
use Rattle.dm_agree.specs.Agreement.{Rewriting, Here, here_at, here_below, Left, left_at, standing_in, standing_below, standing_for}
use Rattle.dm_beside.specs.Places.{is_one_expression, is_subtree, occurs}
use Rattle.dm_told.specs.Told.{AreAroundParts, ArePlacesExpressions, ArePlacesNested, IsAroundParts, IsInside, Meet, site_in}
use Rattle.dm_told.proofs.FindLemmas.{found_has}
use Rattle.dm_standing.specs.Calls.{HasArguments, HasOccurrences, IsThere}

-- ---- lists

abbrev HasSome : {A : Type 0} → List A → Type 0
HasSome [] = ⊥
HasSome (x ∷ xs) = Unit {0}

some_front : {A : Type 0} (front back : List A) → HasSome front → HasSome (front ++ back)
some_front [] back h = absurd h
some_front (x ∷ front) back h = tt

some_back : {A : Type 0} (front back : List A) → HasSome back → HasSome (front ++ back)
some_back [] back h = h
some_back (x ∷ front) back h = tt

all_append : {A : Type 0} (P : A → Type 0) (front back : List A) → AllByRecursion P front → AllByRecursion P back → AllByRecursion P (front ++ back)
all_append P [] back h k = k
all_append P (x ∷ front) back h k = (h.0, all_append P front back h.1 k)

all_front : {A : Type 0} (P : A → Type 0) (front back : List A) → AllByRecursion P (front ++ back) → AllByRecursion P front
all_front P [] back h = tt
all_front P (x ∷ front) back h = (h.0, all_front P front back h.1)

all_back : {A : Type 0} (P : A → Type 0) (front back : List A) → AllByRecursion P (front ++ back) → AllByRecursion P back
all_back P [] back h = h
all_back P (x ∷ front) back h = all_back P front back h.1

all_weaker : {A : Type 0} (P Q : A → Type 0) → ((x : A) → P x → Q x) → (items : List A) → AllByRecursion P items → AllByRecursion Q items
all_weaker P Q f [] h = tt
all_weaker P Q f (x ∷ items) h = (f x h.0, all_weaker P Q f items h.1)

among_front : {A : Type 0} (x : A) (front back : List A) → IsAmong x front → IsAmong x (front ++ back)
among_front x [] back h = absurd h
among_front x (y ∷ front) back (inl e) = inl e
among_front x (y ∷ front) back (inr h) = inr (among_front x front back h)

among_back : {A : Type 0} (x : A) (front back : List A) → IsAmong x back → IsAmong x (front ++ back)
among_back x [] back h = h
among_back x (y ∷ front) back h = inr (among_back x front back h)

some_same : {A : Type 0} (x y : A) → Some x ≡ Some y → x ≡ y
some_same x y e = cc

or_left : (a b : Bool) → a ≡ true → (a || b) ≡ true
or_left true b e = refl
or_left false b e = absurd (false≢true e)

or_right : (a b : Bool) → b ≡ true → (a || b) ≡ true
or_right true b e = refl
or_right false b e = e

not_true : (b : Bool) → not b ≡ true → b ≡ false
not_true true e = absurd (false≢true e)
not_true false e = refl

-- what is found in two lists is found in one of them
module _ {A R : Type 0} (test : A → Bool) where
  found_in : (front back : List A) (x : A) → find test (front ++ back) ≡ Some x → (find test front ≡ Some x → R) → (find test back ≡ Some x → R) → R
  found_in [] back x e f g = g e
  found_in (y ∷ front) back x e f g = by_test (test y) e f (λ k own. found_in front back x k own g)
    where
      by_test : (b : Bool) → (if b then Some y else find test (front ++ back)) ≡ Some x → ((if b then Some y else find test front) ≡ Some x → R)
          → (find test (front ++ back) ≡ Some x → (find test front ≡ Some x → R) → R) → R
      by_test true k own rest = own k
      by_test false k own rest = rest k own

-- ---- tokens

same_span : (a b : Span) → a.first ≡ b.first → a.after ≡ b.after → is_same_span a b ≡ true
same_span a b e f = and_from (a.first == b.first) (a.after == b.after) (eq-eqb a.first b.first e) (eq-eqb a.after b.after f)

narrowing_has : (inner span : Span) (pairs k : ℕ) → k ≤ pairs → span.first ≡ inner.first - k → span.after ≡ inner.after + k → list_any (is_same_span span) (narrowing inner pairs) ≡ true
narrowing_has inner span zero k less first after = or_left (is_same_span span inner) false (same_span span inner (omega (arith, less, first)) (omega (arith, less, after)))
narrowing_has inner span (suc pairs) k less first after = by_last (k == suc pairs) refl (λ few. narrowing_has inner span pairs k few first after)
  where
    by_last : (b : Bool) → (k == suc pairs) ≡ b → (k ≤ pairs → list_any (is_same_span span) (narrowing inner pairs) ≡ true)
        → list_any (is_same_span span) (narrowing inner (suc pairs)) ≡ true
    by_last true is rest =
        let same : k ≡ suc pairs = grind (arith, nat_tests, is) in
        or_left (is_same_span span (widened inner (suc pairs))) (list_any (is_same_span span) (narrowing inner pairs))
        (same_span span (widened inner (suc pairs)) (omega (arith, first, same)) (omega (arith, after, same)))
    by_last false is rest =
        let few : k ≤ pairs = grind (arith, nat_tests, is, less) in
        or_right (is_same_span span (widened inner (suc pairs))) (list_any (is_same_span span) (narrowing inner pairs)) (rest few)

-- what is found by some tokens stands there
stands_at : (span : Span) (site : Site) → is_site_of span site ≡ true → (site.apart ≡ true) × (stands span site.tree ≡ true)
stands_at span site e =
    let own = and_parts site.apart (sites.stands span site.tree) e in
    let value = and_parts (is_value site.tree) (is_extent span (spans_of site.tree)) own.1 in (
      own.0,
      subst (λ (b : Bool). list_any (is_same_span span) (if b then extents (spans_of site.tree) else []) ≡ true) (sym value.0) (extent (spans_of site.tree) value.1),
    )
  where
    extent : (spans : Spans) → is_extent span spans ≡ true → list_any (is_same_span span) (extents spans) ≡ true
    extent spans k =
        let first = and_parts (nat_le spans.outer.first span.first) (nat_le span.first spans.inner.first && (span.after == spans.inner.after + (spans.inner.first - span.first))) k in
        let second = and_parts (nat_le span.first spans.inner.first) (span.after == spans.inner.after + (spans.inner.first - span.first)) first.1 in
        let low : spans.outer.first ≤ span.first = grind (arith, nat_tests, first) in
        let mid : span.first ≤ spans.inner.first = grind (arith, nat_tests, second) in
        let high : span.after ≡ spans.inner.after + (spans.inner.first - span.first) = grind (arith, nat_tests, second) in
        narrowing_has spans.inner span (spans.inner.first - spans.outer.first) (spans.inner.first - span.first) (omega (arith, low)) (omega (arith, mid)) high

-- ---- occurrences at trees

module _ (P : Occurrence → Type 0) where
  abbrev AmongSpans : List Span → Occurrence → Type 0
  AmongSpans spans one = P one × (list_any (is_same_span one.span) spans ≡ true)

  with_span : (span : Span) (spans : List Span) (occurrences : List Occurrence) → AllByRecursion P occurrences → AllByRecursion (AmongSpans (span ∷ spans)) (occurrences_with occurrences span)
  with_span span spans [] h = tt
  with_span span spans (one ∷ occurrences) h = by_test (is_same_span one.span span) refl (with_span span spans occurrences h.1)
    where
      by_test : (b : Bool) → is_same_span one.span span ≡ b → AllByRecursion (AmongSpans (span ∷ spans)) (occurrences_with occurrences span)
          → AllByRecursion (AmongSpans (span ∷ spans)) (if b then one ∷ occurrences_with occurrences span else occurrences_with occurrences span)
      by_test true e rest = ((h.0, or_left (is_same_span one.span span) (list_any (is_same_span one.span) spans) e), rest)
      by_test false e rest = rest

  with_spans : (spans : List Span) (occurrences : List Occurrence) → AllByRecursion P occurrences → AllByRecursion (AmongSpans spans) (flat_map (occurrences_with occurrences) spans)
  with_spans [] occurrences h = tt
  with_spans (span ∷ spans) occurrences h =
      all_append (AmongSpans (span ∷ spans)) (occurrences_with occurrences span) (flat_map (occurrences_with occurrences) spans) (with_span span spans occurrences h)
      (all_weaker (AmongSpans spans) (AmongSpans (span ∷ spans))
      (λ one k. (k.0, or_right (is_same_span one.span span) (list_any (is_same_span one.span) spans) k.1)) (flat_map (occurrences_with occurrences) spans) (with_spans spans occurrences h))

  abbrev StandsAt : Bool → Tree → Occurrence → Type 0
  StandsAt apart tree one = P one × (apart ≡ true) × (stands one.span tree ≡ true)

  at_tree : (occurrences : List Occurrence) (tree : Tree) → AllByRecursion P occurrences → AllByRecursion (StandsAt true tree) (occurrences_at occurrences tree)
  at_tree occurrences tree h =
      all_weaker (AmongSpans (extents_of tree)) (StandsAt true tree) (λ one k. (k.0, refl, k.1)) (occurrences_at occurrences tree) (with_spans (extents_of tree) occurrences h)

  at_part : (occurrences : List Occurrence) (label : Label) (spans : Spans) (part : Tree) → AllByRecursion P occurrences
      → AllByRecursion (StandsAt (is_apart label spans part) part) (occurrences_below occurrences label spans part)
  at_part occurrences label spans part h = by_apart (is_apart label spans part)
    where
      by_apart : (b : Bool) → AllByRecursion (StandsAt b part) (flat_map (occurrences_with occurrences) (if b then extents_of part else []))
      by_apart true = at_tree occurrences part h
      by_apart false = tt

module _ (each : Occurrence) where
  with_it : (occurrences : List Occurrence) (span : Span) → IsAmong each occurrences → is_same_span each.span span ≡ true → HasSome (occurrences_with occurrences span)
  with_it [] span among same = absurd among
  with_it (one ∷ occurrences) span among same = by_test (is_same_span one.span span) refl among (λ further. with_it occurrences span further same)
    where
      by_test : (b : Bool) → is_same_span one.span span ≡ b → (each ≡ one) ⊎ IsAmong each occurrences → (IsAmong each occurrences → HasSome (occurrences_with occurrences span))
          → HasSome (if b then one ∷ occurrences_with occurrences span else occurrences_with occurrences span)
      by_test true is among rest = tt
      by_test false is (inl e) rest = absurd (true≢false (sym same ∙ ap (λ (o : Occurrence). is_same_span o.span span) e ∙ is))
      by_test false is (inr further) rest = rest further

  among_spans : (occurrences : List Occurrence) (spans : List Span) → IsAmong each occurrences → list_any (is_same_span each.span) spans ≡ true
      → HasSome (flat_map (occurrences_with occurrences) spans)
  among_spans occurrences [] among e = absurd (false≢true e)
  among_spans occurrences (span ∷ spans) among e = by_test (is_same_span each.span span) refl e (among_spans occurrences spans among)
    where
      by_test : (b : Bool) → is_same_span each.span span ≡ b → (b || list_any (is_same_span each.span) spans) ≡ true
          → (list_any (is_same_span each.span) spans ≡ true → HasSome (flat_map (occurrences_with occurrences) spans)) → HasSome (flat_map (occurrences_with occurrences) (span ∷ spans))
      by_test true is k rest = some_front (occurrences_with occurrences span) (flat_map (occurrences_with occurrences) spans) (with_it occurrences span among is)
      by_test false is k rest = some_back (occurrences_with occurrences span) (flat_map (occurrences_with occurrences) spans) (rest k)

  it_at : (occurrences : List Occurrence) (tree : Tree) → IsAmong each occurrences → stands each.span tree ≡ true → HasSome (occurrences_at occurrences tree)
  it_at occurrences tree among e = among_spans occurrences (extents_of tree) among e

  it_below : (occurrences : List Occurrence) (label : Label) (spans : Spans) (part : Tree) → IsAmong each occurrences → is_apart label spans part ≡ true → stands each.span part ≡ true
      → HasSome (occurrences_below occurrences label spans part)
  it_below occurrences label spans part among apart e =
      subst (λ (b : Bool). HasSome (flat_map (occurrences_with occurrences) (if b then extents_of part else []))) (sym apart) (it_at occurrences part among e)

-- ---- trees

module _ (one : TypedUnit) (it : Rewriting) (run : Run) (each : Occurrence) (among : IsAmong each run.occurrences) (argument : Site) where
  -- another occurrence has no token of it
  abbrev IsItOrApart : Occurrence → Type 0
  IsItOrApart other = (other ≡ each) ⊎ (Meet each.span other.span → ⊥)

  abbrev Standing : Bool → Tree → List Occurrence → Type 0
  Standing apart tree occurrences = AllByRecursion (StandsAt IsItOrApart apart tree) occurrences

  record Found (lefts : List Left) : Type 0 where
    left : Left
    is_there : IsAmong left lefts
    same : left.tree ≡ argument.tree

  found_front : (front back : List Left) → Found front → Found (front ++ back)
  found_front front back h = record { left = h.left; is_there = among_front h.left front back h.is_there; same = h.same }

  found_back : (front back : List Left) → Found back → Found (front ++ back)
  found_back front back h = record { left = h.left; is_there = among_back h.left front back h.is_there; same = h.same }

  module _ (apart : AllByRecursion IsItOrApart run.occurrences) where
    -- at an occurrence the tree is the argument
    at_occurrence : (first : Occurrence) (others : List Occurrence) (runs : List Run) (tree : Tree) (site : Site) → site.tree ≡ tree → IsAroundParts one site
        → StandsAt IsItOrApart site.apart tree first → site_in one site each.span ≡ Some argument → (below : List Left) → Found (left_at each.parameter (first ∷ others) runs tree below)
    at_occurrence first others runs tree site same around standing there below = by_first standing.0
      where
        facts : (site_in one site first.span ≡ Some site) × ((part : Span) (other : Site) → site_in one site part ≡ Some other → Meet part first.span)
        facts = around first.span standing.1 (subst (λ (t : Tree). stands first.span t ≡ true) (sym same) standing.2)

        by_first : (first ≡ each) ⊎ (Meet each.span first.span → ⊥) → Found (if first.parameter == each.parameter then record { runs = runs; tree = tree } ∷ [] else [])
        by_first (inr free) = absurd (free (facts.1 each.span argument there))
        by_first (inl e) =
            let it_is : site ≡ argument = some_same site argument (sym facts.0 ∙ ap (λ (o : Occurrence). site_in one site o.span) e ∙ there) in
            subst (λ (b : Bool). Found (if b then record { runs = runs; tree = tree } ∷ [] else [])) (sym (eq-eqb first.parameter each.parameter (ap (λ (o : Occurrence). o.parameter) e)))
            (record { left = record { runs = runs; tree = tree }; is_there = inl refl; same = sym same ∙ ap (λ (s : Site). s.tree) it_is })

    by_tree : (label : Label) (kind : CType) (spans : Spans) (parts : Trees) (site : Site) → is_statement label ≡ false
        → sites_in one.declared (node label kind spans parts) site ≡ site ∷ sites_below one.declared parts (operand_sites site label spans 0 (listed parts))
    by_tree label kind spans parts site e =
        ap (λ (b : Bool). (if b then [] else site ∷ []) ++ sites_below one.declared parts (if b then statement_parts one.declared label (listed parts) else operand_sites site label spans 0 (listed parts))) e

    mutual
      walk_in : (here : Here) (tree : Tree) (site : Site) → site.tree ≡ tree → is_expression tree ≡ true → AllByRecursion (IsAroundParts one) (sites_in one.declared tree site)
          → Standing site.apart tree here.occurrences → (site.apart ≡ true → stands each.span tree ≡ true → HasSome here.occurrences)
          → find (is_site_of each.span) (sites_in one.declared tree site) ≡ Some argument → Found (standing_in it run each.parameter here tree)
      walk_in here (node label kind spans parts) site same expression around standing there found =
          let plain = and_parts (not (is_statement label)) (are_expressions parts) expression in
          let whole = by_tree label kind spans parts site (not_true (is_statement label) plain.0) in
          let arounds = subst (AllByRecursion (IsAroundParts one)) whole around in
          by_occurrences here.occurrences standing there arounds.0
          (λ below. walk_below label spans site 0 parts plain.1 arounds.1 below) (sym (ap (find (is_site_of each.span)) whole) ∙ found)
        where
          below : List Left
          below = standing_below it run each.parameter label spans parts

          by_own : (b : Bool) → is_site_of each.span site ≡ b → (site.apart ≡ true → stands each.span (node label kind spans parts) ≡ true → ⊥)
              → (find (is_site_of each.span) (sites_below one.declared parts (operand_sites site label spans 0 (listed parts))) ≡ Some argument → Found below)
              → (if b then Some site else find (is_site_of each.span) (sites_below one.declared parts (operand_sites site label spans 0 (listed parts)))) ≡ Some argument → Found below
          by_own true is none rest k = let own = stands_at each.span site is in absurd (none own.0 (subst (λ (t : Tree). stands each.span t ≡ true) same own.1))
          by_own false is none rest k = rest k

          by_occurrences : (occurrences : List Occurrence) → Standing site.apart (node label kind spans parts) occurrences
              → (site.apart ≡ true → stands each.span (node label kind spans parts) ≡ true → HasSome occurrences) → IsAroundParts one site
              → (find (is_site_of each.span) (sites_below one.declared parts (operand_sites site label spans 0 (listed parts))) ≡ Some argument → Found below)
              → find (is_site_of each.span) (site ∷ sites_below one.declared parts (operand_sites site label spans 0 (listed parts))) ≡ Some argument
              → Found (left_at each.parameter occurrences here.runs (node label kind spans parts) below)
          by_occurrences [] standing there around rest k = by_own (is_site_of each.span site) refl there rest k
          by_occurrences (first ∷ others) standing there around rest k =
              at_occurrence first others here.runs (node label kind spans parts) site same around standing.0
              (ap (λ (t : Tree). find (is_site_of each.span) (sites_in one.declared t site)) same ∙ found) below

      walk_below : (label : Label) (spans : Spans) (above : Site) (from : ℕ) (trees : Trees) → are_expressions trees ≡ true
          → AllByRecursion (IsAroundParts one) (sites_below one.declared trees (operand_sites above label spans from (listed trees)))
          → find (is_site_of each.span) (sites_below one.declared trees (operand_sites above label spans from (listed trees))) ≡ Some argument
          → Found (standing_below it run each.parameter label spans trees)
      walk_below label spans above from no_trees expressions around found = absurd (no_site argument found)
        where
          no_site : (site : Site) → None ≡ Some site → ⊥
          no_site site e = cc
      walk_below label spans above from (more_trees first rest) expressions around found =
          let plain = and_parts (is_expression first) (are_expressions rest) expressions in
          let here = operand_site above label spans from first in
          let behind = sites_below one.declared rest (operand_sites above label spans (suc from) (listed rest)) in
          let front = standing_in it run each.parameter (here_below it run label spans first) first in
          let back = standing_below it run each.parameter label spans rest in
          found_in (is_site_of each.span) (sites_in one.declared first here) behind argument found
          (λ k. found_front front back
          (walk_in (here_below it run label spans first) first here refl plain.0 (all_front (IsAroundParts one) (sites_in one.declared first here) behind around)
          (at_part IsItOrApart run.occurrences label spans first apart) (it_below each run.occurrences label spans first among) k))
          (λ k. found_back front back (walk_below label spans above (suc from) rest plain.1 (all_back (IsAroundParts one) (sites_in one.declared first here) behind around) k))

-- ---- runs

-- two parts of a run that are apart have no token in common
not_met : (a b : Span) → IsBeside a b → Meet a b → ⊥
not_met a b (inl h) k = let first = k.1 in omega (arith, h, first)
not_met a b (inr h) k = let first = k.0 in omega (arith, h, first)

not_met_there : (a b : Span) → IsBeside a b → Meet b a → ⊥
not_met_there a b (inl h) k = let first = k.0 in omega (arith, h, first)
not_met_there a b (inr h) k = let first = k.1 in omega (arith, h, first)

abbrev span_of : Occurrence → Span
span_of one = one.span

its_own : (P : Span → Type 0) (each : Occurrence) (occurrences : List Occurrence) → AllByRecursion P (map span_of occurrences) → IsAmong each occurrences → P each.span
its_own P each [] h among = absurd among
its_own P each (first ∷ occurrences) h (inl e) = subst (λ (o : Occurrence). P o.span) (sym e) h.0
its_own P each (first ∷ occurrences) h (inr further) = its_own P each occurrences h.1 further

all_apart : (each : Occurrence) (occurrences : List Occurrence) → AreBeside (map span_of occurrences) → IsAmong each occurrences
    → AllByRecursion (λ (other : Occurrence). (other ≡ each) ⊎ (Meet each.span other.span → ⊥)) occurrences
all_apart each [] h among = absurd among
all_apart each (first ∷ occurrences) h (inl e) = (inl (sym e), further occurrences h.0)
  where
    further : (others : List Occurrence) → AllByRecursion (IsBeside first.span) (map span_of others) → AllByRecursion (λ (other : Occurrence). (other ≡ each) ⊎ (Meet each.span other.span → ⊥)) others
    further [] k = tt
    further (other ∷ others) k = (inr (λ meet. not_met first.span other.span k.0 (subst (λ (o : Occurrence). Meet o.span other.span) e meet)), further others k.1)
all_apart each (first ∷ occurrences) h (inr more) =
    (inr (λ meet. not_met_there first.span each.span (its_own (IsBeside first.span) each occurrences h.0 more) meet), all_apart each occurrences h.1 more)

module _ (one : TypedUnit) (it : Rewriting) (run : Run) (nested : ArePlacesNested one) (expressions : ArePlacesExpressions one) (parts : HasPartsApart run) where
  abbrev Known : Site → Type 0
  Known site = AreAroundParts one site × (is_expression site.tree ≡ true)

  both : (sites : List Site) → AllByRecursion (AreAroundParts one) sites → AllByRecursion (λ (site : Site). is_expression site.tree ≡ true) sites → AllByRecursion Known sites
  both [] h k = tt
  both (site ∷ sites) h k = ((h.0, k.0), both sites h.1 k.1)

  occurrence_stands : (inner : List Run) (site : Site) → site_of one run.span ≡ Some site → (each : Occurrence) → IsAmong each run.occurrences → (argument : Site)
      → site_of one each.span ≡ Some argument → (left : Left) × IsAmong left (standing_for it run inner each.parameter site.tree) × (left.tree ≡ argument.tree)
  occurrence_stands inner site is each among argument found =
      let known = found_has (is_site_of run.span) Known (sites_of_unit one) site (both (sites_of_unit one) nested.around expressions) is in
      let within = its_own (IsWithin run.span) each run.occurrences parts.0 among in
      let there = nested.inside run.span each.span site argument is found (within.0, within.2) in
      let apart = all_apart each run.occurrences parts.1 among in
      let own = stands_at run.span site known.1 in
      let at = walk_in one it run each among argument apart (here_at run inner site.tree) site.tree site refl known.0.1 known.0.0
      (subst (λ (b : Bool). AllByRecursion (StandsAt (λ (other : Occurrence). (other ≡ each) ⊎ (Meet each.span other.span → ⊥)) b site.tree) (occurrences_at run.occurrences site.tree))
      (sym own.0) (at_tree (λ (other : Occurrence). (other ≡ each) ⊎ (Meet each.span other.span → ⊥)) run.occurrences site.tree apart))
      (λ free stand. it_at each run.occurrences site.tree among stand) there in
      (at.left, at.is_there, at.same)

pub all_stand : (one : TypedUnit) (it : Rewriting) (run : Run) → ArePlacesNested one → ArePlacesExpressions one → HasPartsApart run → HasOccurrences it one run
all_stand one it run nested expressions parts inner site is each among argument found = occurrence_stands one it run nested expressions parts inner site is each among argument found

-- ---- arguments

some_there : (left : Left) (lefts : List Left) → IsAmong left lefts → IsThere lefts
some_there left [] h = absurd h
some_there left (first ∷ lefts) h = tt

-- an occurrence that passes a test, and is one expression
record Passing (one : TypedUnit) (n : ℕ) (occurrences : List Occurrence) : Type 0 where
  each : Occurrence
  among : IsAmong each occurrences
  parameter : each.parameter ≡ n
  argument : Site
  found : site_of one each.span ≡ Some argument

passing : (one : TypedUnit) (n : ℕ) (occurrences : List Occurrence) → list_any (λ (each : Occurrence). each.parameter == n) occurrences ≡ true
    → list_all (is_one_expression one) (map span_of occurrences) ≡ true → Passing one n occurrences
passing one n [] e k = absurd (false≢true e)
passing one n (first ∷ occurrences) e k =
    let own = and_parts (is_one_expression one first.span) (list_all (is_one_expression one) (map span_of occurrences)) k in
    by_test (first.parameter == n) refl e (site_of one first.span) refl own.0 (λ more. passing one n occurrences more own.1)
  where
    by_test : (b : Bool) → (first.parameter == n) ≡ b → (b || list_any (λ (each : Occurrence). each.parameter == n) occurrences) ≡ true → (o : Option Site) → site_of one first.span ≡ o
        → is_some o ≡ true → (list_any (λ (each : Occurrence). each.parameter == n) occurrences ≡ true → Passing one n occurrences) → Passing one n (first ∷ occurrences)
    by_test true is f None at some rest = absurd (false≢true some)
    by_test true is f (Some site) at some rest =
        record { each = first; among = inl refl; parameter = eqb-true first.parameter n is; argument = site; found = at }
    by_test false is f o at some rest =
        let it = rest f in record { each = it.each; among = inr it.among; parameter = it.parameter; argument = it.argument; found = it.found }

pub arguments_there : (one : TypedUnit) (it : Rewriting) (count : ℕ) (run : Run) → is_subtree one run ≡ true → ((n : ℕ) → n < count → occurs run n ≡ true) → HasOccurrences it one run
    → HasArguments it one count run
arguments_there one it count run subtree occur stand inner site is n few =
    let spans = and_parts (is_one_expression one run.span) (list_all (is_one_expression one) (map span_of run.occurrences)) subtree in
    let its = passing one n run.occurrences (occur n few) spans.1 in
    let at = stand inner site is its.each its.among its.argument its.found in
    subst (λ (k : ℕ). IsThere (standing_for it run inner k site.tree)) its.parameter (some_there at.0 (standing_for it run inner its.each.parameter site.tree) at.1)
