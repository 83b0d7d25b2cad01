-- One more beginning of trails.
use Rattle.std.proofs.Common.{◌≡◌, ℕ, zero, suc, ◌+◌, ◌<◌, Bool, true, false, not, cond, ◌⊎◌, inl, inr, List, [], ◌∷◌, ◌++◌, length, Option, Some, None, slice_get, get_or, refl, sym, ap, ◌∙◌, subst, arith, length-append, add-one}
use Rattle.std.specs.List.{list_any, position}
use Rattle.std.proofs.lemmas.Bool.{false≢true, cond-true, cond-false}
use Rattle.std.proofs.lemmas.List.Quantifiers.{position-Some}
use Rattle.std.proofs.lemmas.Option.{slice_get_within, slice_get-get_or}
use Rattle.dm_token.specs.declared.expansion.Mark.{Mark}
use Rattle.dm_token.specs.Equal.{equal}
use Rattle.dm_token.proofs.MarkLemmas.{equal-same, same-equal}
use Rattle.dm_runs.specs.declared.beginnings.Link.{Link}
use Rattle.dm_runs.specs.Beginnings.{once_more}
use Rattle.dm_runs.specs.Trees.{AreLinked, IsLinked, link_of}
use Rattle.dm_runs.proofs.ItemLemmas.{some-same, slice_get-left, slice_get-last, slice_get-push, any-at, at-any, Passing, push-same}
use Rattle.dm_runs.proofs.LinkLemmas.{same, same-itself, same-link}

module _ (links : List Link) (trails : List (List Mark)) (linked : AreLinked links trails) (above : ℕ) (outer : List Mark) (mark : Mark) (known : slice_get trails above ≡ Some outer) where
  -- of a link that is there the trail is there
  pub met-link : (k : ℕ) → slice_get links k ≡ Some (link_of above mark) → slice_get trails (k + 1) ≡ Some (outer ++ mark ∷ [])
  met-link k is =
      let it = linked.linked k (link_of above mark) is in
      let parts = same-link above it.above mark it.mark (ap (same (link_of above mark)) (sym it.is) ∙ same-itself mark above) in
      let outers : outer ≡ it.outer = some-same outer it.outer (sym known ∙ ap (slice_get trails) parts.0 ∙ it.known) in
      it.longer ∙ ap Some (ap (λ (o : List Mark). o ++ it.mark ∷ []) (sym outers) ∙ ap (λ m. outer ++ m ∷ []) (sym parts.1))

  no-end : (xs : List Mark) (x : Mark) → ◌≡◌ {A = List Mark} [] (xs ++ x ∷ []) → ⊥
  no-end xs x e = omega (arith, length-append xs (x ∷ []), ap length e)

  behind-root : (place : ℕ) (trail : List Mark) → slice_get trails place ≡ Some trail → trail ≡ outer ++ mark ∷ [] → (k : ℕ) × (place ≡ k + 1) × (k < length links)
  behind-root zero trail is e = absurd (no-end outer mark (some-same [] trail (sym linked.root ∙ is) ∙ e))
  behind-root (suc k) trail is e =
      let within = slice_get_within trails (suc k) trail is in
      let counted = linked.counted in
      (k, sym (add-one k), omega arith)

  -- of a trail that is there the link is there
  pub link-met : list_any (equal (outer ++ mark ∷ [])) trails ≡ true → list_any (same (link_of above mark)) links ≡ true
  link-met h =
      let found = at-any (equal (outer ++ mark ∷ [])) trails h in
      let is : outer ++ mark ∷ [] ≡ found.item = equal-same (outer ++ mark ∷ []) found.item found.passes in
      let k = behind-root found.place found.item found.is (sym is) in
      let link = get_or links k.0 (link_of above mark) in
      let here : slice_get links k.0 ≡ Some link = slice_get-get_or links k.0 (link_of above mark) k.2 in
      let it = linked.linked k.0 link here in
      let there : slice_get trails (k.0 + 1) ≡ Some found.item = ap (slice_get trails) (sym k.1) ∙ found.is in
      let parts = push-same it.outer outer it.mark mark (some-same _ _ (sym it.longer ∙ there) ∙ sym is) in
      let numbers : it.above ≡ above = linked.apart it.above above outer (it.known ∙ ap Some parts.0) known in
      let same_link : link ≡ link_of above mark = it.is ∙ ap (λ n. link_of n it.mark) numbers ∙ ap (link_of above) parts.1 in
      any-at (same (link_of above mark)) links k.0 link here (ap (same (link_of above mark)) same_link ∙ same-itself mark above)

  pub met-of-link : list_any (same (link_of above mark)) links ≡ true → list_any (equal (outer ++ mark ∷ [])) trails ≡ true
  met-of-link h =
      let found = at-any (same (link_of above mark)) links h in
      let it = linked.linked found.place found.item found.is in
      let parts = same-link above it.above mark it.mark (ap (same (link_of above mark)) (sym it.is) ∙ found.passes) in
      let is : found.item ≡ link_of above mark = it.is ∙ ap (λ n. link_of n it.mark) (sym parts.0) ∙ ap (link_of above) (sym parts.1) in
      any-at (equal (outer ++ mark ∷ [])) trails (found.place + 1) (outer ++ mark ∷ []) (met-link found.place (found.is ∙ ap Some is)) (same-equal (outer ++ mark ∷ []) (outer ++ mark ∷ []) refl)

  -- a new one
  pub linked-push : list_any (equal (outer ++ mark ∷ [])) trails ≡ false → AreLinked (links ++ link_of above mark ∷ []) (trails ++ (outer ++ mark ∷ []) ∷ [])
  linked-push absent = record {
    counted = omega (arith, linked.counted, length-append links (link_of above mark ∷ []), length-append trails ((outer ++ mark ∷ []) ∷ []));
    root = slice_get-left trails _ 0 [] linked.root;
    linked = λ k link is. elim (slice_get-push links (link_of above mark) k link is) [
      | inl h ↦ let it = linked.linked k link h in record { above = it.above; outer = it.outer; mark = it.mark; is = it.is; known = slice_get-left trails _ it.above it.outer it.known; longer = slice_get-left trails _ (k + 1) _ it.longer }
      | inr h ↦ record {
        above = above;
        outer = outer;
        mark = mark;
        is = h.1;
        known = slice_get-left trails _ above outer known;
        longer = ap (slice_get (trails ++ (outer ++ mark ∷ []) ∷ [])) (ap (λ n. n + 1) h.0 ∙ sym linked.counted) ∙ slice_get-last trails (outer ++ mark ∷ []);
      }
    ];
    apart = λ i j trail a b. elim (slice_get-push trails (outer ++ mark ∷ []) i trail a) [
      | inl h ↦ elim (slice_get-push trails (outer ++ mark ∷ []) j trail b) [
        | inl g ↦ linked.apart i j trail h g
        | inr g ↦ absurd (false≢true (sym absent ∙ any-at (equal (outer ++ mark ∷ [])) trails i trail h (same-equal _ _ (sym g.1))))
      ]
      | inr h ↦ elim (slice_get-push trails (outer ++ mark ∷ []) j trail b) [
        | inl g ↦ absurd (false≢true (sym absent ∙ any-at (equal (outer ++ mark ∷ [])) trails j trail g (same-equal _ _ (sym h.1))))
        | inr g ↦ h.0 ∙ sym g.0
      ]
    ];
  }

  -- the number of a link that is there
  pub number-of : (k : ℕ) (link : Link) → slice_get links k ≡ Some link → same (link_of above mark) link ≡ true → slice_get trails (k + 1) ≡ Some (outer ++ mark ∷ [])
  number-of k link is passes =
      let it = linked.linked k link is in
      let parts = same-link above it.above mark it.mark (ap (same (link_of above mark)) (sym it.is) ∙ passes) in
      met-link k (is ∙ ap Some (it.is ∙ ap (λ n. link_of n it.mark) (sym parts.0) ∙ ap (link_of above) (sym parts.1)))

  -- that of the first
  pub number-at : (k : ℕ) → position (same (link_of above mark)) links ≡ Some k → slice_get trails (k + 1) ≡ Some (outer ++ mark ∷ [])
  number-at k is =
      let link = link_of above mark in
      let at = position-Some (same link) links k link is in
      number-of k (get_or links k link) (slice_get-get_or links k link at.0) at.1

  pub absent-trail : list_any (same (link_of above mark)) links ≡ false → list_any (equal (outer ++ mark ∷ [])) trails ≡ false
  absent-trail absent =
      elim (list_any (equal (outer ++ mark ∷ [])) trails) as (λ b. list_any (equal (outer ++ mark ∷ [])) trails ≡ b → b ≡ false) [
        | true ↦ λ h. absurd (false≢true (sym absent ∙ link-met h))
        | false ↦ λ h. refl
      ] refl

  pub added-old : list_any (same (link_of above mark)) links ≡ true → trails ≡ once_more trails (outer ++ mark ∷ [])
  added-old h = sym (cond-true (list_any (equal (outer ++ mark ∷ [])) trails) trails (trails ++ (outer ++ mark ∷ []) ∷ []) (met-of-link h))

  pub added-new : list_any (same (link_of above mark)) links ≡ false → trails ++ (outer ++ mark ∷ []) ∷ [] ≡ once_more trails (outer ++ mark ∷ [])
  added-new h = sym (cond-false (list_any (equal (outer ++ mark ∷ [])) trails) trails (trails ++ (outer ++ mark ∷ []) ∷ []) (absent-trail h))

pub not-true : (b : Bool) → true ≡ not b → b ≡ false
not-true true e = absurd (false≢true (sym e))
not-true false e = refl

pub not-false : (b : Bool) → false ≡ not b → b ≡ true
not-false true e = refl
not-false false e = absurd (false≢true e)
