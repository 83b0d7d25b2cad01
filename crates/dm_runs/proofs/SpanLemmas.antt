-- Spans of positions, by their extents.
use Rattle.std.proofs.Common.{◌≡◌, ℕ, zero, suc, ◌+◌, ◌<◌, ◌≤◌, Bool, true, false, cond, ◌&&◌, List, [], ◌∷◌, length, Option, Some, None, slice_get, refl, sym, ap, ◌∙◌, subst, arith, fold, add-one}
use Rattle.std.specs.Bool.{◌==◌}
use Rattle.std.proofs.lemmas.Bool.{and_parts, eqb-true, eq-eqb, false≢true}
use Rattle.std.proofs.Math.Bool.{and-true, and_assoc}
use Rattle.dm_token.specs.declared.place.Span.{Span}
use Rattle.dm_token.specs.declared.expansion.Mark.{Mark}
use Rattle.dm_token.specs.declared.token.CToken.{CToken}
use Rattle.dm_runs.specs.declared.extents.Extent.{Extent}
use Rattle.dm_runs.specs.Beginnings.{begins}
use Rattle.dm_runs.specs.Extents.{extended, extent_of, span_from, IsSpanUnder, IsRunSpan}
use Rattle.dm_runs.specs.Spans.{positions, tokens_under, follow_on, span_of}
use Rattle.dm_runs.proofs.ItemLemmas.{some-same}

-- ---- the span is read off the extent

abbrev after_last : ℕ → List ℕ → ℕ
after_last after [] = after
after_last after (m ∷ ms) = after_last (m + 1) ms

eq-flip : (a b : ℕ) → (a == b) ≡ (b == a)
eq-flip a b =
    elim (a == b) as (λ c. (a == b) ≡ c → c ≡ (b == a)) [
      | true ↦ λ e. sym (eq-eqb b a (sym (eqb-true a b e)))
      | false ↦ λ e. elim (b == a) as (λ d. (b == a) ≡ d → false ≡ d) [
        | true ↦ λ f. sym e ∙ eq-eqb a b (sym (eqb-true b a f))
        | false ↦ λ f. refl
      ] refl
    ] refl

run-on : (first n : ℕ) (whole : Bool) (ns : List ℕ)
    → fold extended (Some (record { first = first; after = n + 1; is_whole = whole })) ns ≡ Some (record { first = first; after = after_last (n + 1) ns; is_whole = whole && follow_on n ns })
run-on first n whole [] = ap (λ b. Some (record { first = first; after = n + 1; is_whole = b })) (sym (and-true whole))
run-on first n whole (m ∷ ms) =
    run-on first m (whole && (n + 1 == m)) ms
    ∙ ap (λ b. Some (record { first = first; after = after_last (m + 1) ms; is_whole = b }))
    (and_assoc whole (n + 1 == m) (follow_on m ms) ∙ ap (λ b. whole && (b && follow_on m ms)) (eq-flip (n + 1) m ∙ ap (λ k. m == k) (add-one n)))

in-a-row : (n : ℕ) (ns : List ℕ) → follow_on n ns ≡ true → after_last (n + 1) ns ≡ suc n + length ns
in-a-row n [] e = omega arith
in-a-row n (m ∷ ms) e =
    let parts = and_parts (m == suc n) (follow_on m ms) e in
    let next : m ≡ suc n = eqb-true m (suc n) parts.0 in
    omega (arith, in-a-row m ms parts.1, next)

pub span-is : (elsewhere : ℕ) (ns : List ℕ) → span_from elsewhere (extent_of ns) ≡ span_of elsewhere ns
span-is elsewhere [] = refl
span-is elsewhere (n ∷ ns) =
    ap (span_from elsewhere) (run-on n n true ns)
    ∙ elim (follow_on n ns) as (λ b. follow_on n ns ≡ b → ◌≡◌ {A = Span} (record { first = n; after = cond b (after_last (n + 1) ns) n }) (cond b (record { first = n; after = suc n + length ns }) (record { first = n; after = n }))) [
      | true ↦ λ e. ap (λ (a : ℕ). record { first = n; after = a }) (in-a-row n ns e)
      | false ↦ λ e. refl
    ] refl

-- ---- the tokens of a span

-- the positions from n on of what passes are these in a row, from first on
record Row {A : Type 0} (test : A → Bool) (n first after : ℕ) (xs : List A) : Type 0 where
  only : (k : ℕ) (x : A) → slice_get xs k ≡ Some x → test x ≡ true → (first ≤ n + k) × (n + k < after)
  all : (k : ℕ) (x : A) → slice_get xs k ≡ Some x → first ≤ n + k → n + k < after → test x ≡ true
  within : after ≤ n + length xs
  low : n ≤ first
  some : first < after

-- no position, so none passes
none-passes : {A : Type 0} (test : A → Bool) (n : ℕ) (xs : List A) → positions test n xs ≡ [] → (k : ℕ) (x : A) → slice_get xs k ≡ Some x → test x ≡ true → ⊥
none-passes test n [] none k x is passes = cc
none-passes test n (y ∷ xs) none zero x is passes =
    absurd (let e : positions test n (y ∷ xs) ≡ n ∷ positions test (suc n) xs = ap (λ b. cond b (n ∷ positions test (suc n) xs) (positions test (suc n) xs)) (ap test (some-same y x is) ∙ passes) in
    omega (arith, ap length (sym none ∙ e)))
none-passes test n (y ∷ xs) none (suc k) x is passes =
    elim (test y) as (λ b. cond b (n ∷ positions test (suc n) xs) (positions test (suc n) xs) ≡ [] → ⊥) [
      | true ↦ λ e. omega (arith, ap length e)
      | false ↦ λ e. none-passes test (suc n) xs e k x is passes
    ] none

module _ {A : Type 0} (test : A → Bool) (n : ℕ) (y : A) (xs : List A) where
  end-only : test y ≡ true → positions test (suc n) xs ≡ [] → (k : ℕ) (x : A) → slice_get (y ∷ xs) k ≡ Some x → test x ≡ true → (n ≤ n + k) × (n + k < n + 1)
  end-only here none zero x is passes = (omega arith, omega arith)
  end-only here none (suc k) x is passes = absurd (none-passes test (suc n) xs none k x is passes)

  end-all : test y ≡ true → (k : ℕ) (x : A) → slice_get (y ∷ xs) k ≡ Some x → n ≤ n + k → n + k < n + 1 → test x ≡ true
  end-all here zero x is low high = ap test (sym (some-same y x is)) ∙ here
  end-all here (suc k) x is low high = absurd (omega (arith, high))

  more-only : (first after : ℕ) → first ≡ suc n → Row test (suc n) first after xs → (k : ℕ) (x : A) → slice_get (y ∷ xs) k ≡ Some x → test x ≡ true → (n ≤ n + k) × (n + k < after)
  more-only first after next row zero x is passes = (omega arith, omega (arith, row.some, next))
  more-only first after next row (suc k) x is passes = let it = row.only k x is passes in (omega arith, omega (arith, it.1))

  more-all : (first after : ℕ) → first ≡ suc n → test y ≡ true → Row test (suc n) first after xs → (k : ℕ) (x : A) → slice_get (y ∷ xs) k ≡ Some x → n ≤ n + k → n + k < after → test x ≡ true
  more-all first after next here row zero x is low high = ap test (sym (some-same y x is)) ∙ here
  more-all first after next here row (suc k) x is low high = row.all k x is (omega (arith, next)) (omega (arith, high))

  skip-only : (first after : ℕ) → test y ≡ false → Row test (suc n) first after xs → (k : ℕ) (x : A) → slice_get (y ∷ xs) k ≡ Some x → test x ≡ true → (first ≤ n + k) × (n + k < after)
  skip-only first after here row zero x is passes = absurd (false≢true (sym here ∙ ap test (some-same y x is) ∙ passes))
  skip-only first after here row (suc k) x is passes = let it = row.only k x is passes in (omega (arith, it.0), omega (arith, it.1))

  skip-all : (first after : ℕ) → Row test (suc n) first after xs → (k : ℕ) (x : A) → slice_get (y ∷ xs) k ≡ Some x → first ≤ n + k → n + k < after → test x ≡ true
  skip-all first after row zero x is low high = absurd (omega (arith, row.low, low))
  skip-all first after row (suc k) x is low high = row.all k x is (omega (arith, low)) (omega (arith, high))

cons-same : {A : Type 0} (m n : A) (ms ns : List A) → ◌≡◌ {A = List A} (m ∷ ms) (n ∷ ns) → (m ≡ n) × (ms ≡ ns)
cons-same m n ms ns e = (cc, cc)

row-true : {A : Type 0} (test : A → Bool) (n : ℕ) (y : A) (xs : List A) (m : ℕ) (ms : List ℕ) → test y ≡ true → n ≡ m → positions test (suc n) xs ≡ ms → follow_on m ms ≡ true
    → ((first : ℕ) (rest : List ℕ) → ms ≡ first ∷ rest → follow_on first rest ≡ true → Row test (suc n) first (first + 1 + length rest) xs) → Row test n m (m + 1 + length ms) (y ∷ xs)
row-true test n y xs m [] here same none follow rec = record {
  only = λ k x is passes. let it = end-only test n y xs here none k x is passes in (omega (arith, it.0, same), omega (arith, it.1, same));
  all = λ k x is low high. end-all test n y xs here k x is (omega arith) (omega (arith, high, same));
  within = omega (arith, same);
  low = omega (arith, same);
  some = omega arith;
}
row-true test n y xs m (m2 ∷ rest) here same is follow rec =
    let parts = and_parts (m2 == suc m) (follow_on m2 rest) follow in
    let next : m2 ≡ suc n = eqb-true m2 (suc m) parts.0 ∙ ap suc (sym same) in
    let row = rec m2 rest refl parts.1 in
    record {
      only = λ k x at passes. let it = more-only test n y xs m2 (m2 + 1 + length rest) next row k x at passes in (omega (arith, it.0, same), omega (arith, it.1, same, next));
      all = λ k x at low high. more-all test n y xs m2 (m2 + 1 + length rest) next here row k x at (omega arith) (omega (arith, high, same, next));
      within = omega (arith, row.within, same, next);
      low = omega (arith, same);
      some = omega arith;
    }

row-of : {A : Type 0} (test : A → Bool) (n : ℕ) (xs : List A) (m : ℕ) (ms : List ℕ) → positions test n xs ≡ m ∷ ms → follow_on m ms ≡ true → Row test n m (m + 1 + length ms) xs
row-of test n [] m ms e follow = cc
row-of test n (y ∷ xs) m ms e follow =
    elim (test y) as (λ b. test y ≡ b → cond b (n ∷ positions test (suc n) xs) (positions test (suc n) xs) ≡ m ∷ ms → Row test n m (m + 1 + length ms) (y ∷ xs)) [
      | true ↦ λ here f.
          let same = cons-same n m (positions test (suc n) xs) ms f in
          row-true test n y xs m ms here same.0 same.1 follow (λ first rest g follows. row-of test (suc n) xs first rest (same.1 ∙ g) follows)
      | false ↦ λ here f.
          let row = row-of test (suc n) xs m ms f follow in
          record {
            only = skip-only test n y xs m (m + 1 + length ms) here row;
            all = skip-all test n y xs m (m + 1 + length ms) row;
            within = omega (arith, row.within);
            low = omega (arith, row.low);
            some = row.some;
          }
    ] refl e

abbrev span_at : ℕ → ℕ → Span
span_at first after = record { first = first; after = after }

abbrev under : List Mark → CToken → Bool
under prefix token = begins prefix token.trail

-- a span that isn't empty has the tokens whose trails begin so
pub record Filled (prefix : List Mark) (tokens : List CToken) (span : Span) : Type 0 where
  pub under : IsSpanUnder prefix tokens span
  pub within : span.after ≤ length tokens

filled-row : (elsewhere : ℕ) (prefix : List Mark) (tokens : List CToken) (m : ℕ) (ms : List ℕ) → tokens_under prefix tokens ≡ m ∷ ms
    → ((span_of elsewhere (m ∷ ms)).first ≡ (span_of elsewhere (m ∷ ms)).after → ⊥) → Filled prefix tokens (span_of elsewhere (m ∷ ms))
filled-row elsewhere prefix tokens m ms e =
    elim (follow_on m ms) as (λ b. follow_on m ms ≡ b → ((cond b (span_at m (suc m + length ms)) (span_at m m)).first ≡ (cond b (span_at m (suc m + length ms)) (span_at m m)).after → ⊥)
    → Filled prefix tokens (cond b (span_at m (suc m + length ms)) (span_at m m))) [
      | true ↦ λ follow some.
          let row = row-of (under prefix) 0 tokens m ms e follow in
          record {
            under = record {
              only = λ k token is passes. let it = row.only k token is passes in (omega (arith, it.0), omega (arith, it.1));
              all = λ k token is low high. row.all k token is (omega (arith, low)) (omega (arith, high));
            };
            within = omega (arith, row.within);
          }
      | false ↦ λ follow some. absurd (some refl)
    ] refl

pub filled-span : (elsewhere : ℕ) (prefix : List Mark) (tokens : List CToken) → ((span_of elsewhere (tokens_under prefix tokens)).first ≡ (span_of elsewhere (tokens_under prefix tokens)).after → ⊥)
    → Filled prefix tokens (span_of elsewhere (tokens_under prefix tokens))
filled-span elsewhere prefix tokens =
    elim (tokens_under prefix tokens) as (λ ps. tokens_under prefix tokens ≡ ps → ((span_of elsewhere ps).first ≡ (span_of elsewhere ps).after → ⊥) → Filled prefix tokens (span_of elsewhere ps)) [
      | [] ↦ λ e some. absurd (some refl)
      | m ∷ ms ↦ λ e. filled-row elsewhere prefix tokens m ms e
    ] refl

pub filled-run : (prefix : List Mark) (tokens : List CToken) (run : Span) → IsRunSpan prefix tokens run → (run.first ≡ run.after → ⊥) → Filled prefix tokens run
filled-run prefix tokens run is some =
    subst (Filled prefix tokens) (sym is.1)
    (filled-span is.0 prefix tokens (λ same. some (ap (λ (s : Span). s.first) is.1 ∙ same ∙ sym (ap (λ (s : Span). s.after) is.1))))

-- a span ends behind where it begins, or there
pub run-ordered : (prefix : List Mark) (tokens : List CToken) (run : Span) → IsRunSpan prefix tokens run → run.first ≤ run.after
run-ordered prefix tokens run is = subst (λ (s : Span). s.first ≤ s.after) (sym is.1) (ordered (tokens_under prefix tokens))
  where
    in-order : (first after : ℕ) (b : Bool) → first ≤ after → (cond b (span_at first after) (span_at first first)).first ≤ (cond b (span_at first after) (span_at first first)).after
    in-order first after true le = le
    in-order first after false le = omega arith

    ordered : (ns : List ℕ) → (span_of is.0 ns).first ≤ (span_of is.0 ns).after
    ordered [] = omega arith
    ordered (n ∷ ns) = in-order n (suc n + length ns) (follow_on n ns) (omega arith)

pub some-tokens : (run : Span) → (run.first ≡ run.after → ⊥) → (run.first == run.after) ≡ false
some-tokens run some =
    elim (run.first == run.after) as (λ b. (run.first == run.after) ≡ b → b ≡ false) [
      | true ↦ λ e. absurd (some (eqb-true run.first run.after e))
      | false ↦ λ e. refl
    ] refl
