-- What is known of occurrences together.
use Rattle.std.proofs.Common.{◌≡◌, ℕ, Bool, true, false, cond, ◌&&◌, ◌||◌, ◌==◌, not, List, [], ◌∷◌, map, filter, refl, sym, ap, ap₂, ◌∙◌, arith, length, slice_get, slice_set, Some, zero, suc, ◌<◌, eqb-true}
use Rattle.std.proofs.lemmas.Bool.{eqb-false}
use Rattle.std.specs.List.{list_all, list_any}
use Rattle.dm_token.specs.declared.place.Span.{Span}
use Rattle.dm_runs.specs.declared.run.Occurrence.{Occurrence}
use Rattle.dm_beside.specs.declared.tally.Fact.{Fact}
use Rattle.dm_beside.specs.declared.tally.Tally.{Tally}
use Rattle.dm_beside.specs.Evaluation.{is_once_first, may_come_early}
use Rattle.dm_beside.specs.Tallies.{added, tally_by, tally_at, tally_of, is_passed, spans_for}

module _ (fact : Span → Fact) where
  -- one more occurrence in front
  pub one-more : (each : Occurrence) (done : List Occurrence) (n : ℕ) → tally_of fact (spans_for (each ∷ done) n)
      ≡ cond (each.parameter == n) (added (fact each.span) (tally_of fact (spans_for done n))) (tally_of fact (spans_for done n))
  one-more each done n = by (each.parameter == n) refl
    where
      by : (b : Bool) → (each.parameter == n) ≡ b → tally_of fact (map (λ (one : Occurrence). one.span) (cond (each.parameter == n) (each ∷ filter (λ (one : Occurrence). one.parameter == n) done) (filter (λ (one : Occurrence). one.parameter == n) done)))
          ≡ cond (each.parameter == n) (added (fact each.span) (tally_of fact (spans_for done n))) (tally_of fact (spans_for done n))
      by true is =
          ap (λ (b : Bool). tally_of fact (map (λ (one : Occurrence). one.span) (cond b (each ∷ filter (λ (one : Occurrence). one.parameter == n) done) (filter (λ (one : Occurrence). one.parameter == n) done)))) is
          ∙ ap (λ (b : Bool). cond b (added (fact each.span) (tally_of fact (spans_for done n))) (tally_of fact (spans_for done n))) (sym is)
      by false is =
          ap (λ (b : Bool). tally_of fact (map (λ (one : Occurrence). one.span) (cond b (each ∷ filter (λ (one : Occurrence). one.parameter == n) done) (filter (λ (one : Occurrence). one.parameter == n) done)))) is
          ∙ ap (λ (b : Bool). cond b (added (fact each.span) (tally_of fact (spans_for done n))) (tally_of fact (spans_for done n))) (sym is)

  -- ---- what a tally says

  first-of : (spans : List Span) → (tally_of fact spans).first ≡ list_any (λ span. (fact span).first) spans
  first-of [] = refl
  first-of (span ∷ spans) = ap (λ b. (fact span).first || b) (first-of spans)

  stable-of : (spans : List Span) → (tally_of fact spans).stable ≡ list_all (λ span. (fact span).stable) spans
  stable-of [] = refl
  stable-of (span ∷ spans) = ap (λ b. (fact span).stable && b) (stable-of spans)

  safe-of : (spans : List Span) → (tally_of fact spans).safe ≡ list_all (λ span. (fact span).safe) spans
  safe-of [] = refl
  safe-of (span ∷ spans) = ap (λ b. (fact span).safe && b) (safe-of spans)

  alone : (p : Bool) → ((p || false) && true) ≡ p
  alone true = refl
  alone false = refl

  none : (p : Bool) → (p && false) ≡ false
  none true = refl
  none false = refl

  once-of : (spans : List Span) → ((tally_of fact spans).first && not (tally_of fact spans).several) ≡ is_once_first (λ span. (fact span).first) spans
  once-of [] = refl
  once-of (only ∷ []) = alone (fact only).first
  once-of (span ∷ other ∷ spans) = none ((fact span).first || ((fact other).first || (tally_of fact spans).first))

  pub passed-is : (spans : List Span) → is_passed (tally_of fact spans)
      ≡ (is_once_first (λ span. (fact span).first) spans || may_come_early (λ span. (fact span).first) (λ span. (fact span).stable) (λ span. (fact span).safe) spans)
  passed-is spans =
      ap₂ (λ p q. p || q) (once-of spans)
      (ap₂ (λ p q. p && q) (stable-of spans) (ap₂ (λ p q. p || q) (first-of spans) (safe-of spans)))

-- ---- a table

set-here : (table : List Tally) (at : ℕ) (tally : Tally) → at < length table → slice_get (slice_set table at tally) at ≡ Some tally
set-here [] at tally lt = absurd (omega (arith, lt))
set-here (first ∷ table) zero tally lt = refl
set-here (first ∷ table) (suc at) tally lt = set-here table at tally (omega (arith, lt))

set-apart : (table : List Tally) (at n : ℕ) (tally : Tally) → (at ≡ n → ⊥) → slice_get (slice_set table at tally) n ≡ slice_get table n
set-apart [] at n tally apart = refl
set-apart (first ∷ table) zero zero tally apart = absurd (apart refl)
set-apart (first ∷ table) zero (suc n) tally apart = refl
set-apart (first ∷ table) (suc at) zero tally apart = refl
set-apart (first ∷ table) (suc at) (suc n) tally apart = set-apart table at n tally (λ same. apart (ap suc same))

pub set-at : (table : List Tally) (at n : ℕ) (tally : Tally) → at < length table → tally_at (slice_set table at tally) n ≡ cond (at == n) tally (tally_at table n)
set-at table at n tally lt = by (at == n) refl
  where
    by : (b : Bool) → (at == n) ≡ b → tally_at (slice_set table at tally) n ≡ cond (at == n) tally (tally_at table n)
    by true is =
        ap (λ (m : ℕ). tally_by (slice_get (slice_set table at tally) m)) (sym (eqb-true at n is))
        ∙ (ap tally_by (set-here table at tally lt) ∙ ap (λ (b : Bool). cond b tally (tally_at table n)) (sym is))
    by false is = ap tally_by (set-apart table at n tally (eqb-false at n is)) ∙ ap (λ (b : Bool). cond b tally (tally_at table n)) (sym is)

-- at the position or at another one
pub put-at : (parameter n : ℕ) (old here : Tally) (make : Tally → Tally) → (parameter ≡ n → here ≡ old) → cond (parameter == n) (make here) old ≡ cond (parameter == n) (make old) old
put-at parameter n old here make same = by (parameter == n) refl
  where
    by : (b : Bool) → (parameter == n) ≡ b → cond (parameter == n) (make here) old ≡ cond (parameter == n) (make old) old
    by true is = ap (λ one. cond (parameter == n) (make one) old) (same (eqb-true parameter n is))
    by false is = ap (λ (b : Bool). cond b (make here) old) is ∙ ap (λ (b : Bool). cond b (make old) old) (sym is)
