-- The tokens of phase 7 that the first tokens of beginnings are parts of.
use Rattle.std.proofs.Common.{◌≡◌, ℕ, zero, suc, ◌+◌, ◌-◌, ◌<◌, ◌≤◌, Bool, true, false, cond, ◌&&◌, ◌⊎◌, inl, inr, List, [], ◌∷◌, ◌++◌, length, map, take, Option, Some, None, slice_get, get_or, replicate, unwrap_or, refl, sym, ap, ◌∙◌, subst, arith, fold, add-one, add-zero, zero-add}
use Rattle.std.specs.List.{list_any, position_from}
use Rattle.std.specs.Option.{option_map}
use Rattle.std.proofs.lemmas.Bool.{cond-true, cond-false, false≢true}
use Rattle.std.proofs.lemmas.Option.{slice_get-map}
use Rattle.std.proofs.lemmas.List.{take_all, take-append-le, length-append}
use Rattle.dm_token.specs.declared.expansion.Mark.{Mark}
use Rattle.dm_token.specs.declared.token.Token.{Token}
use Rattle.dm_token.specs.Equal.{equal}
use Rattle.dm_runs.specs.Beginnings.{begins, beginnings_of, once_more}
use Rattle.dm_runs.specs.Runs.{first_part}
use Rattle.dm_runs.specs.Spans.{is_literal, begun_among, part_among}
use Rattle.dm_runs.proofs.ItemLemmas.{some-same, slice_get-push}
use Rattle.dm_runs.proofs.BeginningLemmas.{map-push}
use Rattle.dm_runs.proofs.GrowthLemmas.{Grown, grown, Covers, covers-step, beginning-begins}
use Rattle.dm_runs.proofs.ExtentLemmas.{filled, root-is-there}

abbrev pub trails_in : List Token → List (List Mark)
trails_in tokens = map (λ (token : Token). token.trail) tokens

-- ---- how many begin

abbrev pub behind : Bool → List Token → Bool
behind before [] = before
behind before (token ∷ tokens) = behind (is_literal token.pp.kind) tokens

pub behind-push : (before : Bool) (tokens : List Token) (token : Token) → behind before (tokens ++ token ∷ []) ≡ is_literal token.pp.kind
behind-push before [] token = refl
behind-push before (first ∷ tokens) token = behind-push (is_literal first.pp.kind) tokens token

pub begun-push : (before : Bool) (tokens : List Token) (token : Token) → begun_among before (tokens ++ token ∷ []) ≡ begun_among before tokens + cond (behind before tokens && is_literal token.pp.kind) 0 1
begun-push before [] token = omega arith
begun-push before (first ∷ tokens) token = omega (arith, begun-push (is_literal first.pp.kind) tokens token)

few : (b : Bool) → cond b 0 1 ≤ 1
few true = omega arith
few false = omega arith

pub begun-few : (before : Bool) (tokens : List Token) → begun_among before tokens ≤ length tokens
begun-few before [] = omega arith
begun-few before (first ∷ tokens) = omega (arith, begun-few (is_literal first.pp.kind) tokens, few (before && is_literal first.pp.kind))

-- ---- first positions

pub position-front : {A : Type 0} (test : A → Bool) (at place : ℕ) (xs ys : List A) → position_from test at xs ≡ Some place → position_from test at (xs ++ ys) ≡ Some place
position-front test at place [] ys some = cc
position-front test at place (x ∷ xs) ys some =
    elim (test x) as (λ b. cond b (Some at) (position_from test (at + 1) xs) ≡ Some place → cond b (Some at) (position_from test (at + 1) (xs ++ ys)) ≡ Some place) [
      | true ↦ λ e. e
      | false ↦ λ e. position-front test (at + 1) place xs ys e
    ] some

pub position-behind : {A : Type 0} (test : A → Bool) (at : ℕ) (xs ys : List A) → position_from test at xs ≡ None → position_from test at (xs ++ ys) ≡ position_from test (at + length xs) ys
position-behind test at [] ys none = ap (λ n. position_from test n ys) (sym (add-zero at))
position-behind test at (x ∷ xs) ys none =
    elim (test x) as (λ b. cond b (Some at) (position_from test (at + 1) xs) ≡ None → cond b (Some at) (position_from test (at + 1) (xs ++ ys)) ≡ position_from test (at + suc (length xs)) ys) [
      | true ↦ λ e. cc
      | false ↦ λ e. let same : at + 1 + length xs ≡ at + suc (length xs) = omega arith in position-behind test (at + 1) xs ys e ∙ ap (λ n. position_from test n ys) same
    ] none

pub position-none : {A : Type 0} (test : A → Bool) (at : ℕ) (xs : List A) → ((k : ℕ) (x : A) → slice_get xs k ≡ Some x → test x ≡ false) → position_from test at xs ≡ None
position-none test at [] none = refl
position-none test at (x ∷ xs) none =
    cond-false (test x) (Some at) (position_from test (at + 1) xs) (none 0 x refl) ∙ position-none test (at + 1) xs (λ k y is. none (suc k) y is)

pub position-within : {A : Type 0} (test : A → Bool) (at place : ℕ) (xs : List A) → position_from test at xs ≡ Some place → place < at + length xs
position-within test at place [] some = cc
position-within test at place (x ∷ xs) some =
    elim (test x) as (λ b. cond b (Some at) (position_from test (at + 1) xs) ≡ Some place → place < at + suc (length xs)) [
      | true ↦ λ e. let same : at ≡ place = some-same at place e in omega (arith, same)
      | false ↦ λ e. omega (arith, position-within test (at + 1) place xs e)
    ] some

-- ---- first parts

abbrev pub test_for : List Mark → Token → Bool
test_for p token = begins p token.trail

part-front : (tokens : List Token) (token : Token) (n : ℕ) → n < length tokens → part_among (tokens ++ token ∷ []) n ≡ part_among tokens n
part-front tokens token n inside = ap (λ ts. begun_among false ts - 1) (take-append-le (suc n) tokens (token ∷ []) (omega (arith, inside)))

part-last : (tokens : List Token) (token : Token) → part_among (tokens ++ token ∷ []) (length tokens) ≡ begun_among false (tokens ++ token ∷ []) - 1
part-last tokens token = ap (λ ts. begun_among false ts - 1) (take_all (suc (length tokens)) (tokens ++ token ∷ []) (omega (arith, length-append tokens (token ∷ []))))

begins-nothing : (t : List Mark) → begins [] t ≡ true
begins-nothing [] = refl
begins-nothing (x ∷ t) = refl

root-part : (tokens : List Token) → first_part tokens [] ≡ 0
root-part [] = refl
root-part (token ∷ tokens) =
    ap (λ b. part_among (token ∷ tokens) (unwrap_or (cond b (Some 0) (position_from (test_for []) 1 tokens)) 0)) (begins-nothing token.trail)

-- each of these but the root is a beginning of one of the tokens' trails
abbrev pub Stand : List (List Mark) → List Token → Type 0
Stand found tokens = (k : ℕ) (p : List Mark) → slice_get found k ≡ Some p → (p ≡ []) ⊎ ((n : ℕ) × (position_from (test_for p) 0 tokens ≡ Some n))

first-kept : (tokens : List Token) (token : Token) (p : List Mark) → (p ≡ []) ⊎ ((n : ℕ) × (position_from (test_for p) 0 tokens ≡ Some n)) → first_part tokens p ≡ first_part (tokens ++ token ∷ []) p
first-kept tokens token p stands =
    elim stands [
      | inl none ↦ ap (first_part tokens) none ∙ root-part tokens ∙ sym (root-part (tokens ++ token ∷ [])) ∙ ap (first_part (tokens ++ token ∷ [])) (sym none)
      | inr at ↦
          ap (λ o. part_among tokens (unwrap_or o 0)) at.1 ∙ sym (part-front tokens token at.0 (omega (arith, position-within (test_for p) 0 at.0 tokens at.1)))
          ∙ sym (ap (λ o. part_among (tokens ++ token ∷ []) (unwrap_or o 0)) (position-front (test_for p) 0 at.0 tokens (token ∷ []) at.1))
    ]

at-end : (tokens : List Token) (token : Token) (p : List Mark) → position_from (test_for p) 0 tokens ≡ None → begins p token.trail ≡ true → position_from (test_for p) 0 (tokens ++ token ∷ []) ≡ Some (length tokens)
at-end tokens token p none is =
    position-behind (test_for p) 0 tokens (token ∷ []) none ∙ cond-true (begins p token.trail) (Some (0 + length tokens)) None is ∙ ap Some (zero-add (length tokens))

absent-position : (found : List (List Mark)) (tokens : List Token) (p : List Mark) → Covers found (trails_in tokens) → list_any (equal p) found ≡ false → position_from (test_for p) 0 tokens ≡ None
absent-position found tokens p covers absent =
    position-none (test_for p) 0 tokens (λ k token is.
    elim (begins p token.trail) as (λ b. begins p token.trail ≡ b → b ≡ false) [
      | true ↦ λ e. absurd (false≢true (sym absent ∙ covers p k token.trail (slice_get-map (λ (one : Token). one.trail) tokens k ∙ ap (option_map (λ (one : Token). one.trail)) is) e))
      | false ↦ λ e. refl
    ] refl)

pub parts-step : (found whole : List (List Mark)) (tokens : List Token) (token : Token) → whole ≡ fold once_more found (beginnings_of token.trail) → Covers found (trails_in tokens) → Stand found tokens
    → take (length whole) (map (first_part tokens) found) ++ replicate (length whole - length (map (first_part tokens) found)) (begun_among false (tokens ++ token ∷ []) - 1) ≡ map (first_part (tokens ++ token ∷ [])) whole
parts-step found whole tokens token is covers stand =
    filled found (beginnings_of token.trail) whole (first_part tokens) (first_part (tokens ++ token ∷ [])) (begun_among false (tokens ++ token ∷ []) - 1)
    (subst (Grown found (beginnings_of token.trail)) (sym is) (grown found (beginnings_of token.trail)))
    (λ k p at. first-kept tokens token p (stand k p at))
    (λ p absent from.
    ap (λ o. part_among (tokens ++ token ∷ []) (unwrap_or o 0)) (at-end tokens token p (absent-position found tokens p covers absent) (beginning-begins p token.trail from))
    ∙ part-last tokens token)

slice_get-split : {A : Type 0} (xs ys : List A) (k : ℕ) (x : A) → slice_get (xs ++ ys) k ≡ Some x → (slice_get xs k ≡ Some x) ⊎ ((j : ℕ) × (slice_get ys j ≡ Some x))
slice_get-split [] ys k x e = inr (k, e)
slice_get-split (y ∷ xs) ys zero x e = inl e
slice_get-split (y ∷ xs) ys (suc k) x e = slice_get-split xs ys k x e

pub stand-step : (found whole : List (List Mark)) (tokens : List Token) (token : Token) → whole ≡ fold once_more found (beginnings_of token.trail) → Covers found (trails_in tokens) → Stand found tokens
    → Stand whole (tokens ++ token ∷ [])
stand-step found whole tokens token is covers stand k p at =
    let g = grown found (beginnings_of token.trail) in
    elim (slice_get-split found g.news k p (ap (λ w. slice_get w k) (sym (is ∙ g.is)) ∙ at)) [
      | inl old ↦ elim (stand k p old) [
        | inl none ↦ inl none
        | inr n ↦ inr (n.0, position-front (test_for p) 0 n.0 tokens (token ∷ []) n.1)
      ]
      | inr new ↦ inr (length tokens, at-end tokens token p (absent-position found tokens p covers (g.fresh new.0 p new.1)) (beginning-begins p token.trail (g.from new.0 p new.1)))
    ]

pub covers-more : (found whole : List (List Mark)) (tokens : List Token) (token : Token) → slice_get found 0 ≡ Some [] → whole ≡ fold once_more found (beginnings_of token.trail)
    → Covers found (trails_in tokens) → Covers whole (trails_in (tokens ++ token ∷ []))
covers-more found whole tokens token root is covers =
    subst (λ w. Covers w (trails_in (tokens ++ token ∷ []))) (sym is)
    (subst (Covers (fold once_more found (beginnings_of token.trail))) (sym (map-push (λ (one : Token). one.trail) tokens token))
    (covers-step found (trails_in tokens) token.trail (root-is-there found root) covers))

pub begun-some : (tokens : List Token) → 0 < length tokens → 1 ≤ begun_among false tokens
begun-some [] some = absurd (omega arith)
begun-some (first ∷ tokens) some = let e : begun_among false (first ∷ tokens) ≡ 1 + begun_among (is_literal first.pp.kind) tokens = refl in omega (arith, e)
