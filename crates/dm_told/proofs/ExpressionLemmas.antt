-- Where the places in an expression stand, by its parts.
--     IsKnownExpression site      of an expression and the places below it: they are told by their tokens, and those below it are shorter than it is
--     expression_known      so it is of each expression that is laid out
use Rattle.std.specs.Prelude.{◌≡◌, refl, ℕ, suc, ◌+◌, ◌<◌, ◌≤◌, Bool, true, false, not, ◌&&◌, ◌||◌, ◌==◌, List, [], ◌∷◌, ◌++◌, find, map, Some, None, if◌then◌else◌}
use Rattle.std.specs.List.{AllByRecursion}
use Rattle.std.proofs.Common.{ap, sym, ◌∙◌, subst, arith, ⊎_elim}
use Rattle.std.proofs.lemmas.Bool.{true≢false, false≢true, and_parts}
use Rattle.dm_token.specs.declared.place.Span.{Span}
use Rattle.dm_tree.specs.Initialisers.{is_same_span, shares_tokens}
use Rattle.dm_tree.specs.Trees.{Label, convert, declare, Spans, Tree, Trees, node, no_trees, more_trees, label_of, spans_of, parts_of, listed, is_statement}
use Rattle.dm_tree.specs.Units.{Declaration}
use Rattle.dm_meaning.specs.Wholes.{is_expression, are_expressions}
use Rattle.dm_sites.specs.Sites.{Site, is_site_of, operand_site, operand_sites, sites_in, all_sites}
use Rattle.dm_sites.specs.Standing.{is_value, is_implied_conversion, is_apart}
use Rattle.dm_sites.specs.Standing as sites
use Rattle.dm_sites.proofs.PlaceLemmas.{Divides, operand-trees, expression-sites}
use Rattle.dm_scoped.specs.Spans.{IsShorter, is_conversion, MayShare, EndBefore, IsBehind, AreInside, in_source_order, EachInside, IsLaidOut, AreLaidOut}
use Rattle.dm_told.specs.Told.{Meet}
use Rattle.dm_told.proofs.FindLemmas.{all_append, all_of, all_weaker, found_has}
use Rattle.dm_told.proofs.OnlyLemmas.{Told, told_none, told_append, told_own, IsShortOf, IsDistinct, AreDistinct, Each, each_weaker, each_append, distinct, separate, IsIn, Region, in_other_order, IsAround, HasAll, site_is, extent_has}
use Rattle.dm_told.proofs.RowLemmas.{tree_of, InOrder, AllShort, HasTokens, order_bound, order_before, inside_order, IsSettled, IsSeated, MeetsParts, IsKnown, tokens_of, row_arounds, row_known, row_short}

-- ---- labels

same_conversion : (label : Label) → sites.is_conversion label ≡ is_conversion label
same_conversion convert = refl
same_conversion label = refl

not_implied : (tree : Tree) → is_conversion (label_of tree) ≡ false → is_implied_conversion tree ≡ false
not_implied (node label kind spans no_trees) e = refl
not_implied (node label kind spans (more_trees operand rest)) e = ap (λ (b : Bool). b && shares_tokens spans operand) (same_conversion label ∙ e)

not_above : (label : Label) → is_conversion label ≡ false → (one : Tree) (others : List Tree) → MayShare label one others → is_conversion (label_of one) ≡ false
not_above convert e one others h = absurd (true≢false e)
not_above label e one others h = h.1

source_order : (label : Label) (parts : List Tree) → is_conversion label ≡ false → is_statement label ≡ false → in_source_order label parts ≡ parts ∷ []
source_order convert parts e n = absurd (true≢false e)
source_order (declare lengths declarators) parts e n = absurd (true≢false n)
source_order label parts e n = refl

divides : (label : Label) (parts : List Tree) → is_statement label ≡ false → Divides label parts
divides (declare lengths declarators) parts e = absurd (true≢false e)
divides label parts e = tt

is_convert : (label : Label) → is_conversion label ≡ true → label ≡ convert
is_convert convert e = refl
is_convert label e = absurd (false≢true e)

same_number : (n : ℕ) → (n == n) ≡ true
same_number n = grind arith

shares : (spans : Spans) (tree : Tree) → spans_of tree ≡ spans → shares_tokens spans tree ≡ true
shares spans tree e =
    ap (λ (it : Spans). is_same_span spans.inner it.inner) e
    ∙ (ap (λ (b : Bool). b && (spans.inner.after == spans.inner.after)) (same_number spans.inner.first) ∙ same_number spans.inner.after)

implied : (tree operand : Tree) (rest : List Tree) → label_of tree ≡ convert → parts_of tree ≡ operand ∷ rest → spans_of operand ≡ spans_of tree → is_implied_conversion tree ≡ true
implied (node label kind spans no_trees) operand rest e p s = absurd (no_first operand rest p)
  where
    no_first : (one : Tree) (others : List Tree) → [] ≡ one ∷ others → ⊥
    no_first one others k = cc
implied (node label kind spans (more_trees first others)) operand rest e p s =
    let same : first ≡ operand = first_is first operand (listed others) rest p in
    ap (λ (b : Bool). b && shares_tokens spans first) (ap sites.is_conversion e) ∙ shares spans first (ap spans_of same ∙ s)
  where
    first_is : (a b : Tree) (xs ys : List Tree) → a ∷ xs ≡ b ∷ ys → a ≡ b
    first_is a b xs ys k = cc

not_true : (b : Bool) → not b ≡ true → b ≡ false
not_true true e = absurd (false≢true e)
not_true false e = refl

-- ---- rows

order_split : (lo hi : ℕ) (trees : List Tree) (last : Tree) → AllByRecursion HasTokens trees → InOrder lo hi (trees ++ last ∷ [])
    → InOrder lo (spans_of last).outer.first trees × ((spans_of last).outer.after ≤ hi) × (lo ≤ (spans_of last).outer.first)
order_split lo hi [] last some h = (h.0, h.1, h.0)
order_split lo hi (tree ∷ trees) last some h =
    let rest = order_split (spans_of tree).outer.after hi trees last some.1 h.1 in
    let begins = h.0 in
    let tokens = some.0 in
    let ends = rest.2 in
    ((h.0, rest.0), rest.1, omega (arith, begins, tokens, ends))

short_split : (span : Span) (trees : List Tree) (last : Tree) → AllShort span (trees ++ last ∷ []) → AllShort span trees × IsShorter (spans_of last).outer span
short_split span [] last h = (tt, h.0)
short_split span (tree ∷ trees) last h = let rest = short_split span trees last h.1 in ((h.0, rest.0), rest.1)

each_both : (P Q : Span → Type 0) (list : List Site) → Each P list → Each Q list → Each (λ span. P span × Q span) list
each_both P Q [] h k = tt
each_both P Q (site ∷ list) h k = ((λ span is. (h.0 span is, k.0 span is)), each_both P Q list h.1 k.1)

distinct_none : (front : List Site) → AreDistinct front []
distinct_none front = all_of (λ (f : Site). AllByRecursion (IsDistinct f) []) (λ f. tt) front

module _ (declared : List Declaration) where
  abbrev pub operands : Site → List Site
  operands site = operand_sites site (label_of site.tree) (spans_of site.tree) 0 (parts_of site.tree)

  abbrev pub below : Site → List Site
  below site = all_sites declared (operands site)

  -- tokens inside a node's own, and fewer
  abbrev pub IsInner : Spans → Span → Type 0
  IsInner spans span = (spans.inner.first ≤ span.first) × (span.first < span.after) × (span.after ≤ spans.inner.after) × IsShorter span spans.inner

  abbrev pub EndsAt : ℕ → Span → Type 0
  EndsAt at span = (span.first < span.after) × (span.after ≤ at)

  pub record IsKnownExpression (site : Site) : Type 0 where
    pub around : IsAround (spans_of site.tree)
    pub whole : sites_in declared site.tree site ≡ site ∷ below site
    pub known : IsKnown declared site
    pub shorter : is_implied_conversion site.tree ≡ false → Each (IsInner (spans_of site.tree)) (below site)
    pub ends : is_conversion (label_of site.tree) ≡ false → (next : Tree) → EndBefore (parts_of site.tree) next → Each (EndsAt (spans_of next).outer.first) (below site)

  -- what is below a node
  record IsBelow (site : Site) : Type 0 where
    told : Told declared (below site)
    region : Region (spans_of site.tree).outer.first (spans_of site.tree).outer.after (below site)
    shorter : is_implied_conversion site.tree ≡ false → Each (IsInner (spans_of site.tree)) (below site)
    ends : is_conversion (label_of site.tree) ≡ false → (next : Tree) → EndBefore (parts_of site.tree) next → Each (EndsAt (spans_of next).outer.first) (below site)

  -- ---- a node above them

  -- the node has all its own tokens, and what is below it hasn't
  own_short : (site : Site) → IsAround (spans_of site.tree) → (is_implied_conversion site.tree ≡ false → Each (IsInner (spans_of site.tree)) (below site)) → AllByRecursion (IsShortOf declared site) (below site)
  own_short site around shorter = by_implied (is_implied_conversion site.tree) refl
    where
      by_implied : (b : Bool) → is_implied_conversion site.tree ≡ b → AllByRecursion (IsShortOf declared site) (below site)
      by_implied true is =
          all_of (IsShortOf declared site) (λ other span another own it.
          let value = and_parts (not (is_statement (label_of site.tree))) (not (is_implied_conversion site.tree)) (site_is span site own).1 in
          absurd (false≢true (sym (ap not is) ∙ value.1))) (below site)
      by_implied false is =
          all_weaker (λ (s : Site). (span : Span) → is_site_of span s ≡ true → IsInner (spans_of site.tree) span) (IsShortOf declared site)
          (λ other inner span another own it within.
          let has = extent_has span (spans_of site.tree) around (site_is span site own).2 in
          let short = (inner another it).3 in
          let low = has.1 in
          let high = has.2 in
          let first = within.0 in
          let last = within.1 in
          omega (arith, short, low, high, first, last)) (below site) (shorter is)

  -- what is below a node has tokens of it
  meets_parts : (site : Site) → IsAround (spans_of site.tree) → sites_in declared site.tree site ≡ site ∷ below site
      → (is_implied_conversion site.tree ≡ false → Each (IsInner (spans_of site.tree)) (below site)) → MeetsParts declared site
  meets_parts site around whole shorter span own =
      let standing = site_is span site own in
      let value = and_parts (not (is_statement (label_of site.tree))) (not (is_implied_conversion site.tree)) standing.1 in
      let has = extent_has span (spans_of site.tree) around standing.2 in (
        ap (find (is_site_of span)) whole ∙ ap (λ (b : Bool). if b then Some site else find (is_site_of span) (below site)) own,
        λ part other there.
            by_own has (shorter (not_true (is_implied_conversion site.tree) value.1)) part other (is_site_of part site) refl (sym (ap (find (is_site_of part)) whole) ∙ there),
      )
    where
      by_own : HasAll (spans_of site.tree) span → Each (IsInner (spans_of site.tree)) (below site) → (part : Span) (other : Site) (b : Bool) → is_site_of part site ≡ b
          → (if b then Some site else find (is_site_of part) (below site)) ≡ Some other → Meet part span
      by_own has inner part other true is e =
          let its = extent_has part (spans_of site.tree) around (site_is part site is).2 in
          let low = has.1 in
          let high = has.2 in
          let first = its.1 in
          let last = its.2 in
          let some = around.1 in
          (omega (arith, first, some, high), omega (arith, low, some, last))
      by_own has inner part other false is e =
          let it = found_has (is_site_of part) (λ (s : Site). (each : Span) → is_site_of each s ≡ true → IsInner (spans_of site.tree) each) (below site) other inner e in
          let within = it.0 part it.1 in
          let low = has.1 in
          let high = has.2 in
          let first = within.0 in
          let some = within.1 in
          let last = within.2 in
          (omega (arith, some, last, high), omega (arith, low, first, some))

  finish : (site : Site) → is_expression site.tree ≡ true → IsAround (spans_of site.tree) → sites_in declared site.tree site ≡ site ∷ below site → AllByRecursion (IsSeated declared) (below site) → IsBelow site → IsKnownExpression site
  finish site expression around whole arounds it =
      let outer = (spans_of site.tree).outer in
      let own : IsSettled declared site = (around.0, meets_parts site around whole it.shorter, expression) in record {
        around = around;
        whole = whole;
        known = record {
          tokens = let low = around.0 in let some = around.1 in let both = around.2 in omega (arith, low, some, both);
          arounds = subst (AllByRecursion (IsSeated declared)) (sym whole)
              ((own, subst (AllByRecursion (IsSettled declared)) (sym whole) (own, all_weaker (IsSeated declared) (IsSettled declared) (λ s k. k.0) (below site) arounds)), arounds);
          told = subst (Told declared) (sym whole) (told_own declared site (below site) whole it.told (own_short site around it.shorter));
          region = subst (Region outer.first outer.after) (sym whole) ((λ span is. (extent_has span (spans_of site.tree) around (site_is span site is).2).0), it.region);
        };
        shorter = it.shorter;
        ends = it.ends;
      }

  -- ---- its parts

  knowns : (list : List Site) → AllByRecursion IsKnownExpression list → AllByRecursion (IsKnown declared) list
  knowns list h = all_weaker IsKnownExpression (IsKnown declared) (λ site k. k.known) list h

  record IsRow (spans : Spans) (row : List Site) : Type 0 where
    told : Told declared (all_sites declared row)
    inner : Each (IsInner spans) (all_sites declared row)
    ends : (next : Tree) → EndBefore (map tree_of row) next → Each (EndsAt (spans_of next).outer.first) (all_sites declared row)

  to_inner : (spans : Spans) (span : Span) → IsIn spans.inner.first spans.inner.after span × IsShorter span spans.inner → IsInner spans span
  to_inner spans span h = (h.0.0, h.0.1, h.0.2, h.1)

  row_ends : (lo hi : ℕ) (row : List Site) → AllByRecursion (IsKnown declared) row → InOrder lo hi (map tree_of row) → (next : Tree) → EndBefore (map tree_of row) next
      → Each (EndsAt (spans_of next).outer.first) (all_sites declared row)
  row_ends lo hi [] known h next ends = tt
  row_ends lo hi (site ∷ row) known h next ends =
      each_weaker (IsIn lo (spans_of next).outer.first) (EndsAt (spans_of next).outer.first) (λ span k. (k.1, k.2)) (all_sites declared (site ∷ row))
      (row_known declared lo (spans_of next).outer.first (site ∷ row) known (order_before lo hi site.tree (map tree_of row) next ends h)).1

  strict_row : (spans : Spans) (row : List Site) → AllByRecursion (IsKnown declared) row → InOrder spans.inner.first spans.inner.after (map tree_of row) → AllShort spans.inner (map tree_of row)
      → IsRow spans row
  strict_row spans row known order short =
      let them = row_known declared spans.inner.first spans.inner.after row known order in record {
        told = them.0;
        inner = each_weaker (λ span. IsIn spans.inner.first spans.inner.after span × IsShorter span spans.inner) (IsInner spans) (to_inner spans) (all_sites declared row)
            (each_both (IsIn spans.inner.first spans.inner.after) (λ span. IsShorter span spans.inner) (all_sites declared row) them.1 (row_short declared spans.inner row known short));
        ends = row_ends spans.inner.first spans.inner.after row known order;
      }

  -- a part that comes from the node's syntax is no expression of its own
  each_whole : (P : Span → Type 0) (site : Site) → IsKnownExpression site → site.apart ≡ false → Each P (below site) → Each P (sites_in declared site.tree site)
  each_whole P site known none h = subst (Each P) (sym known.whole) ((λ span is. absurd (true≢false (sym (site_is span site is).0 ∙ none))), h)

  behind_shared : (spans : Spans) (label : Label) (site : Site) (rest : List Site) → IsKnownExpression site → AllByRecursion (IsKnown declared) rest → spans_of site.tree ≡ spans
      → site.apart ≡ false → is_conversion (label_of site.tree) ≡ false → IsBehind site.tree (map tree_of rest) → AreInside label spans (spans.inner.first + 1) (map tree_of rest)
      → IsRow spans (site ∷ rest)
  behind_shared spans label site [] known rest_known same none plain behind inside =
      let here = sites_in declared site.tree site in
      let outer = (spans_of site.tree).outer in record {
        told = told_append declared here [] known.known.told (told_none declared) (distinct_none here);
        inner = each_append (IsInner spans) here [] (each_whole (IsInner spans) site known none
            (subst (λ (it : Spans). Each (IsInner it) (below site)) same (known.shorter (not_implied site.tree plain)))) tt;
        ends = λ next end.
            each_append (EndsAt (spans_of next).outer.first) here []
            (each_weaker (IsIn outer.first outer.after) (EndsAt (spans_of next).outer.first) (λ span k. let high = k.2 in (k.1, omega (arith, high, end))) here known.known.region) tt;
      }
  behind_shared spans label site (second ∷ rest) known rest_known same none plain behind inside =
      let here = sites_in declared site.tree site in
      let more = all_sites declared (second ∷ rest) in
      let at = (spans_of second.tree).outer.first in
      let rows = inside_order label spans (spans.inner.first + 1) (map tree_of (second ∷ rest)) (omega arith) (tokens_of declared (second ∷ rest) rest_known) inside in
      let them = strict_row spans (second ∷ rest) rest_known (wider_order spans.inner.first (spans.inner.first + 1) spans.inner.after (map tree_of (second ∷ rest)) (omega arith) rows.0) rows.1 in
      let later = (row_known declared at spans.inner.after (second ∷ rest) rest_known (omega arith, rows.0.1)).1 in
      let before = each_whole (EndsAt at) site known none (known.ends plain second.tree behind) in record {
        told = told_append declared here more known.known.told them.told
            (distinct (EndsAt at) (IsIn at spans.inner.after) (λ one other ends k. let begins = k.0 in let last = ends.1 in separate one other ends.0 k.1 (omega (arith, last, begins))) here more before later);
        inner = each_append (IsInner spans) here more
            (each_whole (IsInner spans) site known none (subst (λ (it : Spans). Each (IsInner it) (below site)) same (known.shorter (not_implied site.tree plain)))) them.inner;
        ends = λ next end.
            let bound = order_bound at (spans_of next).outer.first (map tree_of (second ∷ rest)) (tokens_of declared (second ∷ rest) rest_known)
            (order_before at spans.inner.after second.tree (map tree_of rest) next end (omega arith, rows.0.1)) in
            each_append (EndsAt (spans_of next).outer.first) here more
            (each_weaker (EndsAt at) (EndsAt (spans_of next).outer.first) (λ span ends. let some = ends.1 in (ends.0, omega (arith, some, bound))) here before) (them.ends next end);
      }
    where
      wider_order : (low lo hi : ℕ) (trees : List Tree) → low ≤ lo → InOrder lo hi trees → InOrder low hi trees
      wider_order low lo hi [] under h = omega (arith, under, h)
      wider_order low lo hi (tree ∷ trees) under h = (let begins = h.0 in omega (arith, under, begins), h.1)

  plain_row : (label : Label) (spans : Spans) → is_conversion label ≡ false → (row : List Site) → AllByRecursion IsKnownExpression row
      → AllByRecursion (λ (site : Site). site.apart ≡ is_apart label spans site.tree) row → AreInside label spans spans.inner.first (map tree_of row) → IsRow spans row
  plain_row label spans plain [] known apart inside = record { told = told_none declared; inner = tt; ends = λ next end. tt }
  plain_row label spans plain (site ∷ rest) known apart inside =
      ⊎_elim (λ same.
      let none : is_apart label spans site.tree ≡ false = ap (λ (b : Bool). b || not (shares_tokens spans site.tree)) (same_conversion label ∙ plain) ∙ ap not (shares spans site.tree same.0) in
      behind_shared spans label site rest known.0 (knowns rest known.1) same.0 (apart.0 ∙ none) (not_above label plain site.tree (map tree_of rest) same.2) same.3 same.4)
      (λ strict.
      let begins = strict.0 in
      let tokens = known.0.known.tokens in
      let rows = inside_order label spans (spans_of site.tree).outer.after (map tree_of rest) (omega (arith, begins, tokens)) (tokens_of declared rest (knowns rest known.1)) strict.2 in
      strict_row spans (site ∷ rest) (known.0.known, knowns rest known.1) (strict.0, rows.0) (strict.1, rows.1)) inside

  -- ---- conversions

  of_row : (site : Site) → IsAround (spans_of site.tree) → IsRow (spans_of site.tree) (operands site) → map tree_of (operands site) ≡ parts_of site.tree → IsBelow site
  of_row site around row trees =
      let spans = spans_of site.tree in record {
        told = row.told;
        region = each_weaker (IsInner spans) (IsIn spans.outer.first spans.outer.after)
            (λ span k. let a = around.0 in let b = around.2 in let low = k.0 in let high = k.2 in (omega (arith, a, low), k.1, omega (arith, a, b, high))) (below site) row.inner;
        shorter = λ is. row.inner;
        ends = λ is next end. row.ends next (subst (λ (ts : List Tree). EndBefore ts next) (sym trees) end);
      }

  record IsTurned (spans : Spans) (implied_here : Bool) (row : List Site) : Type 0 where
    told : Told declared (all_sites declared row)
    region : Region spans.outer.first spans.outer.after (all_sites declared row)
    inner : implied_here ≡ false → Each (IsInner spans) (all_sites declared row)

  turned_strict : (spans : Spans) (b : Bool) (operand : Site) (lengths : List Site) → IsAround spans → IsKnown declared operand → AllByRecursion (IsKnown declared) lengths
      → InOrder spans.inner.first spans.inner.after (map tree_of lengths ++ operand.tree ∷ []) → AllShort spans.inner (map tree_of lengths ++ operand.tree ∷ []) → IsTurned spans b (operand ∷ lengths)
  turned_strict spans b operand lengths around known lengths_known order short =
      let outer = (spans_of operand.tree).outer in
      let split = order_split spans.inner.first spans.inner.after (map tree_of lengths) operand.tree (tokens_of declared lengths lengths_known) order in
      let shorts = short_split spans.inner (map tree_of lengths) operand.tree short in
      let here = sites_in declared operand.tree operand in
      let more = all_sites declared lengths in
      let them = row_known declared spans.inner.first outer.first lengths lengths_known split.0 in
      let tokens = known.tokens in
      let high = split.1 in
      let alone = strict_row spans (operand ∷ []) (known, tt) (split.2, split.1) (shorts.1, tt) in
      let others = each_weaker (λ span. IsIn spans.inner.first outer.first span × IsShorter span spans.inner) (IsInner spans)
      (λ span k. let ends = k.0.2 in (k.0.0, k.0.1, omega (arith, ends, tokens, high), k.1)) more
      (each_both (IsIn spans.inner.first outer.first) (λ span. IsShorter span spans.inner) more them.1 (row_short declared spans.inner lengths lengths_known shorts.0)) in
      let both = each_append (IsInner spans) here more (drop_none here alone.inner) others in record {
        told = told_append declared here more known.told them.0 (in_other_order spans.inner.first outer.first outer.after here more known.region them.1);
        region = each_weaker (IsInner spans) (IsIn spans.outer.first spans.outer.after)
            (λ span k. let a = around.0 in let c = around.2 in let low = k.0 in let top = k.2 in (omega (arith, a, low), k.1, omega (arith, a, c, top))) (here ++ more) both;
        inner = λ is. both;
      }
    where
      drop_none : (list : List Site) → Each (IsInner spans) (list ++ []) → Each (IsInner spans) list
      drop_none [] h = tt
      drop_none (site ∷ list) h = (h.0, drop_none list h.1)

  turned : (spans : Spans) (b : Bool) (operand : Site) (lengths : List Site) → IsAround spans → IsKnown declared operand → AllByRecursion (IsKnown declared) lengths
      → (spans_of operand.tree ≡ spans → b ≡ true) → AreInside convert spans spans.inner.first (map tree_of lengths ++ operand.tree ∷ []) → IsTurned spans b (operand ∷ lengths)
  turned spans b operand [] around known lengths_known is inside =
      ⊎_elim (λ same.
      let here = sites_in declared operand.tree operand in record {
        told = told_append declared here [] known.told (told_none declared) (distinct_none here);
        region = each_append (IsIn spans.outer.first spans.outer.after) here [] (subst (λ (it : Spans). Region it.outer.first it.outer.after here) same.0 known.region) tt;
        inner = λ no. absurd (true≢false (sym (is same.0) ∙ no));
      })
      (λ strict. turned_strict spans b operand [] around known lengths_known (strict.0, strict.2) (strict.1, tt)) inside
  turned spans b operand (length ∷ lengths) around known lengths_known is inside =
      ⊎_elim (λ same. absurd (some_last (map tree_of lengths) operand.tree same.2))
      (λ strict.
      let begins = strict.0 in
      let tokens = lengths_known.0.tokens in
      let rows = inside_order convert spans (spans_of length.tree).outer.after (map tree_of lengths ++ operand.tree ∷ []) (omega (arith, begins, tokens))
      (all_append HasTokens (map tree_of lengths) (operand.tree ∷ []) (tokens_of declared lengths lengths_known.1) (known.tokens, tt)) strict.2 in
      turned_strict spans b operand (length ∷ lengths) around known lengths_known (strict.0, rows.0) (strict.1, rows.1)) inside
    where
      some_last : (trees : List Tree) (last : Tree) → trees ++ last ∷ [] ≡ [] → ⊥
      some_last [] last e = cc
      some_last (tree ∷ trees) last e = cc

  of_conversion : (site : Site) → IsAround (spans_of site.tree) → label_of site.tree ≡ convert → (row : List Site) → operands site ≡ row → map tree_of row ≡ parts_of site.tree
      → AllByRecursion IsKnownExpression row → EachInside convert (spans_of site.tree) (in_source_order convert (map tree_of row)) → IsBelow site
  of_conversion site around conversion [] is trees known inside =
      let none : below site ≡ [] = ap (all_sites declared) is in record {
        told = subst (Told declared) (sym none) (told_none declared);
        region = subst (Region (spans_of site.tree).outer.first (spans_of site.tree).outer.after) (sym none) tt;
        shorter = λ no. subst (Each (IsInner (spans_of site.tree))) (sym none) tt;
        ends = λ no next end. absurd (true≢false (sym (ap is_conversion conversion) ∙ no));
      }
  of_conversion site around conversion (operand ∷ lengths) is trees known inside =
      let them = turned (spans_of site.tree) (is_implied_conversion site.tree) operand lengths around known.0.known (knowns lengths known.1)
      (λ same. implied site.tree operand.tree (map tree_of lengths) conversion (sym trees) same) inside.0 in
      let all : below site ≡ all_sites declared (operand ∷ lengths) = ap (all_sites declared) is in record {
        told = subst (Told declared) (sym all) them.told;
        region = subst (Region (spans_of site.tree).outer.first (spans_of site.tree).outer.after) (sym all) them.region;
        shorter = λ no. subst (Each (IsInner (spans_of site.tree))) (sym all) (them.inner no);
        ends = λ no next end. absurd (true≢false (sym (ap is_conversion conversion) ∙ no));
      }

  -- ---- trees

  apart_operands : (site : Site) (label : Label) (spans : Spans) (n : ℕ) (parts : List Tree)
      → AllByRecursion (λ (part : Site). part.apart ≡ is_apart label spans part.tree) (operand_sites site label spans n parts)
  apart_operands site label spans n [] = tt
  apart_operands site label spans n (part ∷ parts) = (refl, apart_operands site label spans (suc n) parts)

  abbrev LaidBy : Tree → Type 0
  LaidBy tree = IsAround (spans_of tree) × EachInside (label_of tree) (spans_of tree) (in_source_order (label_of tree) (parts_of tree))

  node_known : (site : Site) → is_expression site.tree ≡ true → is_statement (label_of site.tree) ≡ false → LaidBy site.tree → AllByRecursion IsKnownExpression (operands site) → IsKnownExpression site
  node_known site all expression laid known =
      let trees = operand-trees site (label_of site.tree) (spans_of site.tree) 0 (parts_of site.tree) in
      finish site all laid.0 (expression-sites declared site (divides (label_of site.tree) (parts_of site.tree) expression) expression) (row_arounds declared (operands site) (knowns (operands site) known))
      (by_label (is_conversion (label_of site.tree)) refl trees)
    where
      by_label : (b : Bool) → is_conversion (label_of site.tree) ≡ b → map tree_of (operands site) ≡ parts_of site.tree → IsBelow site
      by_label false plain trees =
          let inside = (subst (EachInside (label_of site.tree) (spans_of site.tree)) (source_order (label_of site.tree) (parts_of site.tree) plain expression) laid.1).0 in
          of_row site laid.0
          (plain_row (label_of site.tree) (spans_of site.tree) plain (operands site) known (apart_operands site (label_of site.tree) (spans_of site.tree) 0 (parts_of site.tree))
          (subst (AreInside (label_of site.tree) (spans_of site.tree) (spans_of site.tree).inner.first) (sym trees) inside)) trees
      by_label true conversion trees =
          let is = is_convert (label_of site.tree) conversion in
          of_conversion site laid.0 is (operands site) refl trees known
          (subst (λ (ts : List Tree). EachInside convert (spans_of site.tree) (in_source_order convert ts)) (sym trees)
          (subst (λ (l : Label). EachInside l (spans_of site.tree) (in_source_order l (parts_of site.tree))) is laid.1))

  mutual
    pub expression_known : (tree : Tree) (site : Site) → site.tree ≡ tree → is_expression tree ≡ true → IsLaidOut tree → IsKnownExpression site
    expression_known (node label kind spans parts) site same expression laid =
        let plain = and_parts (not (is_statement label)) (are_expressions parts) expression in
        node_known site (subst (λ (t : Tree). is_expression t ≡ true) (sym same) expression) (subst (λ (t : Tree). is_statement (label_of t) ≡ false) (sym same) (not_true (is_statement label) plain.0))
        (subst LaidBy (sym same) ((laid.0, laid.1, laid.2), laid.3))
        (subst (λ (t : Tree). AllByRecursion IsKnownExpression (operand_sites site (label_of t) (spans_of t) 0 (parts_of t))) (sym same)
        (expressions_known parts site label spans 0 plain.1 laid.4))

    expressions_known : (trees : Trees) (above : Site) (label : Label) (spans : Spans) (n : ℕ) → are_expressions trees ≡ true → AreLaidOut trees
        → AllByRecursion IsKnownExpression (operand_sites above label spans n (listed trees))
    expressions_known no_trees above label spans n expressions laid = tt
    expressions_known (more_trees first rest) above label spans n expressions laid =
        let plain = and_parts (is_expression first) (are_expressions rest) expressions in (
          expression_known first (operand_site above label spans n first) refl plain.0 laid.0,
          expressions_known rest above label spans (suc n) plain.1 laid.1,
        )
