-- Lists of beginnings that grow: what is new, and what is covered.
use Rattle.std.proofs.Common.{◌≡◌, ℕ, zero, suc, ◌<◌, ◌≤◌, Bool, true, false, cond, ◌||◌, ◌⊎◌, inl, inr, List, [], ◌∷◌, ◌++◌, length, take, drop, Option, Some, None, IfSome, MatchOption, slice_get, get_or, refl, sym, ap, ◌∙◌, subst, arith, fold, append_assoc}
use Rattle.std.specs.List.{list_any}
use Rattle.std.proofs.lemmas.Bool.{cond-true}
use Rattle.std.proofs.lemmas.Option.{slice_get_within}
use Rattle.std.proofs.lemmas.List.{append-nil, length-take, take-append-drop}
use Rattle.std.proofs.lemmas.List.Folds.{list_any-append}
use Rattle.std.proofs.lemmas.List.Sums.{fold-append}
use Rattle.dm_token.specs.declared.expansion.Mark.{Mark}
use Rattle.dm_token.specs.Equal.{equal}
use Rattle.dm_token.proofs.MarkLemmas.{equal-same, same-equal}
use Rattle.dm_runs.specs.Beginnings.{begins, beginnings_of, once_more}
use Rattle.dm_runs.specs.Trees.{AreNumbers}
use Rattle.dm_runs.proofs.ItemLemmas.{some-same, slice_get-push, any-at, at-any}
use Rattle.dm_runs.proofs.BeginningLemmas.{beginning-at, length-beginnings, take-beginnings}

or-left : (a b : Bool) → a ≡ true → (a || b) ≡ true
or-left a b e = ap (λ c. c || b) e

or-right : (a b : Bool) → b ≡ true → (a || b) ≡ true
or-right true b e = refl
or-right false b e = e

or-left-false : (a b : Bool) → (a || b) ≡ false → a ≡ false
or-left-false true b e = e
or-left-false false b e = refl

-- the whole list is the one before, and behind it some of these that weren't in it
pub record Grown (found ps whole : List (List Mark)) : Type 0 where
  pub news : List (List Mark)
  pub is : whole ≡ found ++ news
  pub fresh : (k : ℕ) (p : List Mark) → slice_get news k ≡ Some p → list_any (equal p) found ≡ false
  pub from : (k : ℕ) (p : List Mark) → slice_get news k ≡ Some p → list_any (equal p) ps ≡ true

larger-old : (found : List (List Mark)) (q : List Mark) (ps whole : List (List Mark)) → Grown found ps whole → Grown found (q ∷ ps) whole
larger-old found q ps whole g = record { news = g.news; is = g.is; fresh = g.fresh; from = λ k p h. or-right (equal p q) (list_any (equal p) ps) (g.from k p h) }

fresh-new : (found : List (List Mark)) (q : List Mark) (news : List (List Mark)) → list_any (equal q) found ≡ false
    → ((k : ℕ) (p : List Mark) → slice_get news k ≡ Some p → list_any (equal p) (found ++ q ∷ []) ≡ false)
    → (k : ℕ) (p : List Mark) → slice_get (q ∷ news) k ≡ Some p → list_any (equal p) found ≡ false
fresh-new found q news e f zero p h = ap (λ r. list_any (equal r) found) (sym (some-same q p h)) ∙ e
fresh-new found q news e f (suc k) p h = or-left-false (list_any (equal p) found) (list_any (equal p) (q ∷ [])) (sym (list_any-append (equal p) found (q ∷ [])) ∙ f k p h)

from-new : (q : List Mark) (ps news : List (List Mark)) → ((k : ℕ) (p : List Mark) → slice_get news k ≡ Some p → list_any (equal p) ps ≡ true)
    → (k : ℕ) (p : List Mark) → slice_get (q ∷ news) k ≡ Some p → list_any (equal p) (q ∷ ps) ≡ true
from-new q ps news f zero p h = or-left (equal p q) (list_any (equal p) ps) (same-equal p q (sym (some-same q p h)))
from-new q ps news f (suc k) p h = or-right (equal p q) (list_any (equal p) ps) (f k p h)

larger-new : (found : List (List Mark)) (q : List Mark) (ps whole : List (List Mark)) → list_any (equal q) found ≡ false → Grown (found ++ q ∷ []) ps whole → Grown found (q ∷ ps) whole
larger-new found q ps whole e g = record {
  news = q ∷ g.news;
  is = g.is ∙ append_assoc found (q ∷ []) g.news;
  fresh = fresh-new found q g.news e g.fresh;
  from = from-new q ps g.news g.from;
}

pub grown : (found ps : List (List Mark)) → Grown found ps (fold once_more found ps)
grown found [] = record { news = []; is = sym (append-nil found); fresh = λ k p h. cc; from = λ k p h. cc }
grown found (q ∷ ps) =
    elim (list_any (equal q) found) as (λ b. list_any (equal q) found ≡ b → Grown found (q ∷ ps) (fold once_more (cond b found (found ++ q ∷ [])) ps)) [
      | true ↦ λ e. larger-old found q ps (fold once_more found ps) (grown found ps)
      | false ↦ λ e. larger-new found q ps (fold once_more (found ++ q ∷ []) ps) e (grown (found ++ q ∷ []) ps)
    ] refl

-- what is there stays, and what is added is there
pub kept : (found ps : List (List Mark)) (p : List Mark) → list_any (equal p) found ≡ true → list_any (equal p) (fold once_more found ps) ≡ true
kept found ps p h =
    let g = grown found ps in
    ap (list_any (equal p)) g.is ∙ list_any-append (equal p) found g.news ∙ or-left (list_any (equal p) found) (list_any (equal p) g.news) h

once_more-has : (found : List (List Mark)) (q p : List Mark) → equal p q ≡ true → list_any (equal p) (once_more found q) ≡ true
once_more-has found q p h =
    elim (list_any (equal q) found) as (λ b. list_any (equal q) found ≡ b → list_any (equal p) (cond b found (found ++ q ∷ [])) ≡ true) [
      | true ↦ λ e. ap (λ r. list_any (equal r) found) (equal-same p q h) ∙ e
      | false ↦ λ e. list_any-append (equal p) found (q ∷ []) ∙ or-right (list_any (equal p) found) (list_any (equal p) (q ∷ [])) (or-left (equal p q) false h)
    ] refl

pub added : (found ps : List (List Mark)) (p : List Mark) → list_any (equal p) ps ≡ true → list_any (equal p) (fold once_more found ps) ≡ true
added found [] p h = cc
added found (q ∷ ps) p h =
    elim (equal p q) as (λ b. equal p q ≡ b → (b || list_any (equal p) ps) ≡ true → list_any (equal p) (fold once_more (once_more found q) ps) ≡ true) [
      | true ↦ λ e g. kept (once_more found q) ps p (once_more-has found q p e)
      | false ↦ λ e g. added (once_more found q) ps p g
    ] refl h

-- ---- beginnings

pub begins-length : (p t : List Mark) → begins p t ≡ true → length p ≤ length t
begins-length p t h = omega (arith, ap length (equal-same p (take (length p) t) h), length-take (length p) t)

pub begins-take : (p t : List Mark) → begins p t ≡ true → p ≡ take (length p) t
begins-take p t h = equal-same p (take (length p) t) h

pub take-begins : (p t : List Mark) (n : ℕ) → n ≤ length t → p ≡ take n t → begins p t ≡ true
take-begins p t n le e =
    let len : length p ≡ n = omega (arith, ap length e, length-take n t) in
    same-equal p (take (length p) t) (e ∙ ap (λ m. take m t) (sym len))

pub in-beginnings : (p t : List Mark) → begins p t ≡ true → (p ≡ []) ⊎ (list_any (equal p) (beginnings_of t) ≡ true)
in-beginnings [] t h = inl refl
in-beginnings (x ∷ xs) t h =
    let le = begins-length (x ∷ xs) t h in
    inr (any-at (equal (x ∷ xs)) (beginnings_of t) (length xs) (take (suc (length xs)) t) (beginning-at t (length xs) (omega (arith, le))) h)

pub beginning-begins : (p t : List Mark) → list_any (equal p) (beginnings_of t) ≡ true → begins p t ≡ true
beginning-begins p t h =
    let found = at-any (equal p) (beginnings_of t) h in
    let inside = slice_get_within (beginnings_of t) found.place found.item found.is in
    let lt : found.place < length t = omega (arith, inside, length-beginnings t) in
    let item : found.item ≡ take (suc found.place) t = some-same found.item (take (suc found.place) t) (sym found.is ∙ beginning-at t found.place lt) in
    take-begins p t (suc found.place) (omega (arith, lt)) (equal-same p found.item found.passes ∙ item)

-- ---- what is covered

-- each beginning of these trails is there
abbrev pub Covers : List (List Mark) → List (List Mark) → Type 0
Covers found seen = (p : List Mark) (k : ℕ) (t : List Mark) → slice_get seen k ≡ Some t → begins p t ≡ true → list_any (equal p) found ≡ true

pub covers-step : (found seen : List (List Mark)) (t : List Mark) → list_any (equal []) found ≡ true → Covers found seen → Covers (fold once_more found (beginnings_of t)) (seen ++ t ∷ [])
covers-step found seen t root covers p k s is h =
    elim (slice_get-push seen t k s is) [
      | inl old ↦ kept found (beginnings_of t) p (covers p k s old h)
      | inr new ↦ elim (in-beginnings p t (ap (begins p) (sym new.1) ∙ h)) [
        | inl none ↦ kept found (beginnings_of t) p (ap (λ r. list_any (equal r) found) none ∙ root)
        | inr one ↦ added found (beginnings_of t) p one
      ]
    ]

-- ---- a trail that is walked again

all-there : (found ps : List (List Mark)) → ((k : ℕ) (p : List Mark) → slice_get ps k ≡ Some p → list_any (equal p) found ≡ true) → fold once_more found ps ≡ found
all-there found [] there = refl
all-there found (p ∷ ps) there =
    ap (λ more. fold once_more more ps) (cond-true (list_any (equal p) found) found (found ++ p ∷ []) (there 0 p refl)) ∙ all-there found ps (λ k q is. there (suc k) q is)

-- nothing is added where its numbers are known
pub walked-again : (found : List (List Mark)) (t : List Mark) (numbers : List ℕ) → AreNumbers found t numbers → found ≡ fold once_more found (beginnings_of t)
walked-again found t numbers are =
    sym (all-there found (beginnings_of t) (λ k p is.
    let inside = slice_get_within (beginnings_of t) k p is in
    let lt : k < length t = omega (arith, inside, length-beginnings t) in
    let item : p ≡ take (suc k) t = some-same p (take (suc k) t) (sym is ∙ beginning-at t k lt) in
    any-at (equal p) found (get_or numbers (suc k) 0) (take (suc k) t) (are.known (suc k) (omega (arith, are.counted, lt))) (same-equal p (take (suc k) t) item)))

-- nor for the beginnings of which they are
pub walked-on : (found : List (List Mark)) (t : List Mark) (n : ℕ) (numbers : List ℕ) → AreNumbers found (take n t) numbers
    → fold once_more found (drop n (beginnings_of t)) ≡ fold once_more found (beginnings_of t)
walked-on found t n numbers are =
    ap (λ before. fold once_more before (drop n (beginnings_of t))) (walked-again found (take n t) numbers are ∙ ap (fold once_more found) (sym (take-beginnings t n)))
    ∙ sym (fold-append once_more found (take n (beginnings_of t)) (drop n (beginnings_of t))) ∙ ap (fold once_more found) (take-append-drop n (beginnings_of t))

pub last-numbers : {A : Type 0} (now : A → List Mark) (last : Option A) (found : List (List Mark)) (t : List Mark) (numbers : List ℕ) → IfSome last (λ one. AreNumbers found (now one) numbers)
    → MatchOption last ⊥ (λ one. now one ≡ t) → AreNumbers found t numbers
last-numbers now None found t numbers are same = absurd same
last-numbers now (Some one) found t numbers are same = subst (λ marks. AreNumbers found marks numbers) same are

pub no-numbers : {A : Type 0} (now : A → List Mark) (last : Option A) (found : List (List Mark)) (numbers : List ℕ) → last ≡ None → IfSome last (λ one. AreNumbers found (now one) numbers)
no-numbers now last found numbers none = subst (λ (one : Option _). IfSome one (λ trail. AreNumbers found (now trail) numbers)) (sym none) tt
