-- Places that are linked by the ends of their tokens.
use Rattle.std.proofs.Common.{◌≡◌, ℕ, ◌+◌, ◌-◌, ◌<◌, ◌≤◌, zero, suc, Bool, true, false, cond, ◌&&◌, ◌==◌, nat_le, List, [], ◌∷◌, length, drop, Option, Some, None, slice_get, refl, sym, ap, ◌∙◌, arith, true≢false}
use Rattle.std.specs.List.{find}
use Rattle.std.proofs.lemmas.Bool.{and_parts, leb-true, eqb-false}
use Rattle.std.proofs.lemmas.Bool.Decides.{Decides-eqb}
use Rattle.dm_token.specs.declared.place.Span.{Span}
use Rattle.dm_tree.specs.Trees.{Spans, spans_of}
use Rattle.dm_sites.specs.Links.{ends, key, is_key, key_in, next_from, linked, AreLinkedFrom}
use Rattle.dm_sites.specs.Sites.{Site, is_site_of}
use Rattle.dm_sites.specs.Standing.{is_extent, is_value, stands}

-- ---- lists

pub drop-at : {S : Type 0} (all : List S) (n : ℕ) (one : S) → slice_get all n ≡ Some one → drop n all ≡ one ∷ drop (suc n) all
drop-at [] n one h = absurd (cc)
drop-at (first ∷ all) zero one h = let is : first ≡ one = cc in ap (λ x. x ∷ all) is
drop-at (first ∷ all) (suc n) one h = drop-at all n one h

pub get-behind : {S : Type 0} (all : List S) (n k : ℕ) → slice_get (drop n all) k ≡ slice_get all (n + k)
get-behind [] zero k = refl
get-behind [] (suc n) k = refl
get-behind (first ∷ all) zero k = ap (slice_get (first ∷ all)) (omega arith)
get-behind (first ∷ all) (suc n) k =
    let more : suc n + k ≡ suc (n + k) = omega arith in
    get-behind all n k ∙ ap (slice_get (first ∷ all)) (sym more)

pub get-within : {S : Type 0} (all : List S) (n : ℕ) (one : S) → slice_get all n ≡ Some one → n < length all
get-within [] n one h = absurd (cc)
get-within (first ∷ all) zero one h = omega arith
get-within (first ∷ all) (suc n) one h = let less = get-within all n one h in omega (arith, less)

-- ---- one more place in front

module _ (all : List Site) (n : ℕ) (one : Site) (there : slice_get all n ≡ Some one) where
  one-more : n + 1 ≡ suc n
  one-more = omega arith

  ahead : (sum : ℕ) (found : Option ℕ) → found ≡ next_from sum (n + 1) (drop (n + 1) all) → cond (is_key sum (key one)) (Some n) found ≡ next_from sum n (drop n all)
  ahead sum found is =
      ap (cond (is_key sum (key one)) (Some n)) (is ∙ ap (λ (m : ℕ). next_from sum m (drop m all)) one-more)
      ∙ sym (ap (next_from sum n) (drop-at all n one there))

  -- it has no key
  pub passed-over : (heads links : List (Option ℕ)) → key one ≡ None → AreLinkedFrom (n + 1) all heads links → AreLinkedFrom n all heads links
  passed-over heads links none h = record {
    first = λ sum. ap (λ (found : Option ℕ). cond (is_key sum found) (Some n) (linked heads sum)) (sym none) ∙ ahead sum (linked heads sum) (h.first sum);
    next = λ m sum le is. later m sum le is (m == n) refl;
  }
    where
      later : (m sum : ℕ) → n ≤ m → is_key sum (key_in (slice_get all m)) ≡ true → (b : Bool) → (m == n) ≡ b → linked links m ≡ next_from sum (suc m) (drop (suc m) all)
      later m sum le is true same =
          let at : m ≡ n = (Decides-eqb m n).0 same in
          absurd (true≢false (sym is ∙ ap (is_key sum) (ap (λ (k : ℕ). key_in (slice_get all k)) at ∙ (ap key_in there ∙ none))))
      later m sum le is false other =
          let ne = eqb-false m n other in
          h.next m sum (omega (arith, le, ne)) is

  -- it has one
  pub put-in-front : (sum : ℕ) (heads links new_heads new_links : List (Option ℕ)) → key one ≡ Some sum
      → ((m : ℕ) → linked new_links m ≡ cond (n == m) (linked heads sum) (linked links m))
      → ((m : ℕ) → linked new_heads m ≡ cond (sum == m) (Some n) (linked heads m))
      → AreLinkedFrom (n + 1) all heads links → AreLinkedFrom n all new_heads new_links
  put-in-front sum heads links new_heads new_links some linking heading h = record {
    first = λ other. heading other ∙ (ap (λ (found : Option ℕ). cond (is_key other found) (Some n) (linked heads other)) (sym some) ∙ ahead other (linked heads other) (h.first other));
    next = λ m other le is. later m other le is (n == m) refl;
  }
    where
      later : (m other : ℕ) → n ≤ m → is_key other (key_in (slice_get all m)) ≡ true → (b : Bool) → (n == m) ≡ b → linked new_links m ≡ next_from other (suc m) (drop (suc m) all)
      later m other le is true same =
          let at : n ≡ m = (Decides-eqb n m).0 same in
          let keyed : (sum == other) ≡ true = sym (ap (is_key other) (ap (λ (k : ℕ). key_in (slice_get all k)) (sym at) ∙ (ap key_in there ∙ some))) ∙ is in
          let by : sum ≡ other = (Decides-eqb sum other).0 keyed in
          linking m
          ∙ (ap (λ (b : Bool). cond b (linked heads sum) (linked links m)) same
          ∙ (h.first sum
          ∙ (ap (λ (k : ℕ). next_from sum k (drop k all)) (one-more ∙ ap (λ (k : ℕ). suc k) at)
          ∙ ap (λ (s : ℕ). next_from s (suc m) (drop (suc m) all)) by)))
      later m other le is false differs =
          let ne = eqb-false n m differs in
          linking m ∙ (ap (λ (b : Bool). cond b (linked heads sum) (linked links m)) differs ∙ h.next m other (omega (arith, le, ne)) is)

-- ---- an expression's tokens have the sum of its ends

extent-ends : (span : Span) (spans : Spans) → is_extent span spans ≡ true → ends spans.inner ≡ ends span
extent-ends span spans h =
    let parts = and_parts (nat_le spans.outer.first span.first) (nat_le span.first spans.inner.first && (span.after == spans.inner.after + (spans.inner.first - span.first))) h in
    let inside = and_parts (nat_le span.first spans.inner.first) (span.after == spans.inner.after + (spans.inner.first - span.first)) parts.1 in
    let le = leb-true span.first spans.inner.first inside.0 in
    let after = (Decides-eqb span.after (spans.inner.after + (spans.inner.first - span.first))).0 inside.1 in
    omega (arith, le, after)

eqb-same : (a b : ℕ) → a ≡ b → (a == b) ≡ true
eqb-same a b h = (Decides-eqb a b).1 h

pub site-key : (span : Span) (site : Site) → is_site_of span site ≡ true → is_key (ends span) (key site) ≡ true
site-key span site h =
    let parts = and_parts site.apart (stands span site.tree) h in
    let inside = and_parts (is_value site.tree) (is_extent span (spans_of site.tree)) parts.1 in
    ap (λ (b : Bool). is_key (ends span) (cond (b && is_value site.tree) (Some (ends (spans_of site.tree).inner)) None)) parts.0
    ∙ (ap (λ (b : Bool). is_key (ends span) (cond b (Some (ends (spans_of site.tree).inner)) None)) inside.0
    ∙ eqb-same (ends (spans_of site.tree).inner) (ends span) (extent-ends span (spans_of site.tree) inside.1))

-- ---- a search by the links

-- a place without the key isn't the one that is sought
not-sought : (span : Span) (site : Site) → is_key (ends span) (key site) ≡ false → is_site_of span site ≡ false
not-sought span site h = by (is_site_of span site) refl
  where
    by : (b : Bool) → is_site_of span site ≡ b → is_site_of span site ≡ false
    by true is = absurd (true≢false (sym (site-key span site is) ∙ h))
    by false is = is

module _ (span : Span) where
  none-by : (from : ℕ) (site : Site) (sites : List Site) → (next_from (ends span) (suc from) sites ≡ None → find (is_site_of span) sites ≡ None)
      → next_from (ends span) from (site ∷ sites) ≡ None → (b : Bool) → is_key (ends span) (key site) ≡ b → find (is_site_of span) (site ∷ sites) ≡ None
  none-by from site sites behind h true is =
      let some : Some from ≡ next_from (ends span) from (site ∷ sites) = sym (ap (λ (b : Bool). cond b (Some from) (next_from (ends span) (suc from) sites)) is) in
      let both : Some from ≡ None = some ∙ h in
      absurd (cc)
  none-by from site sites behind h false is =
      let rest : next_from (ends span) (suc from) sites ≡ None = sym (ap (λ (b : Bool). cond b (Some from) (next_from (ends span) (suc from) sites)) is) ∙ h in
      ap (λ (b : Bool). cond b (Some site) (find (is_site_of span) sites)) (not-sought span site is) ∙ behind rest

  pub none-found : (from : ℕ) (sites : List Site) → next_from (ends span) from sites ≡ None → find (is_site_of span) sites ≡ None
  none-found from [] h = refl
  none-found from (site ∷ sites) h = none-by from site sites (λ rest. none-found (suc from) sites rest) h (is_key (ends span) (key site)) refl

  -- where the next one with the key stands
  pub record Next (from : ℕ) (sites : List Site) (m : ℕ) : Type 0 where
    pub k : ℕ
    pub at : m ≡ from + k
    pub one : Site
    pub there : slice_get sites k ≡ Some one
    pub keyed : is_key (ends span) (key one) ≡ true
    pub same : find (is_site_of span) sites ≡ find (is_site_of span) (drop k sites)

  next-by : (from : ℕ) (site : Site) (sites : List Site) (m : ℕ) → (next_from (ends span) (suc from) sites ≡ Some m → Next (suc from) sites m)
      → next_from (ends span) from (site ∷ sites) ≡ Some m → (b : Bool) → is_key (ends span) (key site) ≡ b → Next from (site ∷ sites) m
  next-by from site sites m behind h true is =
      let some : Some from ≡ Some m = sym (ap (λ (b : Bool). cond b (Some from) (next_from (ends span) (suc from) sites)) is) ∙ h in
      let here : from ≡ m = cc in
      record { k = 0; at = omega (arith, here); one = site; there = refl; keyed = is; same = refl }
  next-by from site sites m behind h false is =
      let found = behind (sym (ap (λ (b : Bool). cond b (Some from) (next_from (ends span) (suc from) sites)) is) ∙ h) in
      let at = found.at in
      record {
        k = suc found.k;
        at = omega (arith, at);
        one = found.one;
        there = found.there;
        keyed = found.keyed;
        same = ap (λ (b : Bool). cond b (Some site) (find (is_site_of span) sites)) (not-sought span site is) ∙ found.same;
      }

  pub next-found : (from : ℕ) (sites : List Site) (m : ℕ) → next_from (ends span) from sites ≡ Some m → Next from sites m
  next-found from [] m h = absurd (cc)
  next-found from (site ∷ sites) m h = next-by from site sites m (λ rest. next-found (suc from) sites m rest) h (is_key (ends span) (key site)) refl
