-- The spans of tokens that come a way.
--     Stands prefix tokens elsewhere span      how the span of such tokens stands among all
--     span_stands      so the span of each way does
--     begins_shorter, step_is      what came a way and then one more step
use Rattle.std.specs.Prelude.{◌≡◌, refl, ℕ, suc, ◌+◌, ◌<◌, ◌≤◌, Bool, true, false, List, [], ◌∷◌, ◌++◌, length, take, drop, Some, slice_get, if◌then◌else◌}
use Rattle.std.proofs.Common.{ap, sym, ◌∙◌, subst, arith, append_assoc, length-append}
use Rattle.std.proofs.lemmas.List.{take-append-drop}
use Rattle.dm_token.specs.declared.place.Span.{Span}
use Rattle.dm_token.specs.declared.expansion.Mark.{Mark}
use Rattle.dm_token.specs.declared.token.CToken.{CToken}
use Rattle.dm_runs.specs.Beginnings.{begins}
use Rattle.dm_runs.specs.Spans.{empty_at, follow_on, positions, span_of, tokens_under}
use Rattle.dm_runs.proofs.GrowthLemmas.{begins-take, take-begins}
use Rattle.dm_runs.proofs.SpanLemmas.{Filled, filled-span}

-- ---- positions

-- an item that passes at a number counted from n on
pub record Passes {A : Type 0} (test : A → Bool) (n : ℕ) (xs : List A) (m : ℕ) : Type 0 where
  pub place : ℕ
  pub item : A
  pub at : m ≡ n + place
  pub is : slice_get xs place ≡ Some item
  pub passes : test item ≡ true

heads : {A : Type 0} (x y : A) (xs ys : List A) → x ∷ xs ≡ y ∷ ys → x ≡ y
heads x y xs ys e = cc

no_head : {A : Type 0} (y : A) (ys : List A) → [] ≡ y ∷ ys → ⊥
no_head y ys e = cc

first_passes : {A : Type 0} (test : A → Bool) (n : ℕ) (xs : List A) (m : ℕ) (ms : List ℕ) → positions test n xs ≡ m ∷ ms → Passes test n xs m
first_passes test n [] m ms e = absurd (no_head m ms e)
first_passes test n (x ∷ xs) m ms e = by_test (test x) refl e (first_passes test (suc n) xs m ms)
  where
    later : Passes test (suc n) xs m → Passes test n (x ∷ xs) m
    later found = let at = found.at in record { place = suc found.place; item = found.item; at = omega (arith, at); is = found.is; passes = found.passes }

    by_test : (b : Bool) → test x ≡ b → (if b then n ∷ positions test (suc n) xs else positions test (suc n) xs) ≡ m ∷ ms → (positions test (suc n) xs ≡ m ∷ ms → Passes test (suc n) xs m)
        → Passes test n (x ∷ xs) m
    by_test true is k rest = let same = heads n m (positions test (suc n) xs) ms k in record { place = 0; item = x; at = omega (arith, same); is = refl; passes = is }
    by_test false is k rest = later (rest k)

-- ---- spans

abbrev pub under : List Mark → CToken → Bool
under prefix token = begins prefix token.trail

-- none of the tokens, the first of scattered ones, or all of some that follow one another
pub data Stands (prefix : List Mark) (tokens : List CToken) (elsewhere : ℕ) (span : Span) : Type 0 where
  none : span ≡ empty_at elsewhere → Stands prefix tokens elsewhere span
  scattered : (m : ℕ) (token : CToken) → span ≡ empty_at m → slice_get tokens m ≡ Some token → begins prefix token.trail ≡ true → Stands prefix tokens elsewhere span
  filled : span.first < span.after → Filled prefix tokens span → Stands prefix tokens elsewhere span

pub span_stands : (prefix : List Mark) (tokens : List CToken) (elsewhere : ℕ) → Stands prefix tokens elsewhere (span_of elsewhere (tokens_under prefix tokens))
span_stands prefix tokens elsewhere = by_positions (tokens_under prefix tokens) refl
  where
    by_positions : (ps : List ℕ) → tokens_under prefix tokens ≡ ps → Stands prefix tokens elsewhere (span_of elsewhere ps)
    by_positions [] e = none refl
    by_positions (m ∷ ms) e = by_row (follow_on m ms) refl
      where
        row : Span
        row = record { first = m; after = suc m + length ms }

        by_row : (b : Bool) → follow_on m ms ≡ b → Stands prefix tokens elsewhere (if b then row else empty_at m)
        by_row false k = let found = first_passes (under prefix) 0 tokens m ms e in let at = found.at in scattered m found.item refl (ap (slice_get tokens) (omega (arith, at)) ∙ found.is) found.passes
        by_row true k =
            let same : span_of elsewhere (tokens_under prefix tokens) ≡ row = ap (span_of elsewhere) e ∙ ap (λ (b : Bool). if b then row else empty_at m) k in
            filled (omega arith) (subst (Filled prefix tokens) same
            (filled-span elsewhere prefix tokens (λ empty. let f = ap (λ (s : Span). s.first) same in let a = ap (λ (s : Span). s.after) same in omega (arith, empty, f, a))))

-- ---- ways and longer ways

front : (prefix rest : List Mark) → take (length prefix) (prefix ++ rest) ≡ prefix
front [] rest = refl
front (mark ∷ prefix) rest = ap (λ (marks : List Mark). mark ∷ marks) (front prefix rest)

next_at : (prefix : List Mark) (mark : Mark) (rest : List Mark) → slice_get (prefix ++ mark ∷ rest) (length prefix) ≡ Some mark
next_at [] mark rest = refl
next_at (first ∷ prefix) mark rest = next_at prefix mark rest

module _ (prefix : List Mark) (mark : Mark) (trail : List Mark) (longer : begins (prefix ++ mark ∷ []) trail ≡ true) where
  way : trail ≡ prefix ++ mark ∷ drop (length (prefix ++ mark ∷ [])) trail
  way =
      let n = length (prefix ++ mark ∷ []) in
      sym (take-append-drop n trail) ∙ ap (λ (marks : List Mark). marks ++ drop n trail) (sym (begins-take (prefix ++ mark ∷ []) trail longer)) ∙ append_assoc prefix (mark ∷ []) (drop n trail)

  -- they came the way
  pub begins_shorter : begins prefix trail ≡ true
  begins_shorter =
      let rest = mark ∷ drop (length (prefix ++ mark ∷ [])) trail in
      let count : length prefix ≤ length trail = let e = ap length way in let k = length-append prefix rest in omega (arith, e, k) in
      take-begins prefix trail (length prefix) count (sym (ap (take (length prefix)) way ∙ front prefix rest))

  -- and then the step
  pub step_is : slice_get trail (length prefix) ≡ Some mark
  step_is = ap (λ (marks : List Mark). slice_get marks (length prefix)) way ∙ next_at prefix mark (drop (length (prefix ++ mark ∷ [])) trail)
