-- Tables by parameter.
use Rattle.std.proofs.Common.{◌≡◌, ℕ, zero, suc, ◌<◌, Bool, true, false, cond, ◌==◌, List, [], ◌∷◌, length, Option, Some, slice_get, slice_set, option_map, find, refl, sym, ap, ◌∙◌, arith, eqb-true}
use Rattle.std.proofs.lemmas.Bool.{eqb-false}
use Rattle.dm_token.specs.declared.place.Span.{Span}
use Rattle.dm_runs.specs.declared.run.Occurrence.{Occurrence}
use Rattle.dm_meanings.specs.Types.{is_of}
use Rattle.dm_meanings.specs.Wanted.{entry_by, entry_at}

module _ {A : Type 0} where
  set-here : (table : List (Option A)) (at : ℕ) (entry : A) → at < length table → slice_get (slice_set table at (Some entry)) at ≡ Some (Some entry)
  set-here [] at entry lt = absurd (omega (arith, lt))
  set-here (first ∷ table) zero entry lt = refl
  set-here (first ∷ table) (suc at) entry lt = set-here table at entry (omega (arith, lt))

  set-apart : (table : List (Option A)) (at n : ℕ) (entry : A) → (at ≡ n → ⊥) → slice_get (slice_set table at (Some entry)) n ≡ slice_get table n
  set-apart [] at n entry apart = refl
  set-apart (first ∷ table) zero zero entry apart = absurd (apart refl)
  set-apart (first ∷ table) zero (suc n) entry apart = refl
  set-apart (first ∷ table) (suc at) zero entry apart = refl
  set-apart (first ∷ table) (suc at) (suc n) entry apart = set-apart table at n entry (λ same. apart (ap suc same))

  pub set-at : (table : List (Option A)) (at n : ℕ) (entry : A) → at < length table → entry_at (slice_set table at (Some entry)) n ≡ cond (at == n) (Some entry) (entry_at table n)
  set-at table at n entry lt = by (at == n) refl
    where
      by : (b : Bool) → (at == n) ≡ b → entry_at (slice_set table at (Some entry)) n ≡ cond (at == n) (Some entry) (entry_at table n)
      by true is =
          ap (λ (m : ℕ). entry_by (slice_get (slice_set table at (Some entry)) m)) (sym (eqb-true at n is))
          ∙ (ap entry_by (set-here table at entry lt) ∙ ap (λ (b : Bool). cond b (Some entry) (entry_at table n)) (sym is))
      by false is = ap entry_by (set-apart table at n entry (eqb-false at n is)) ∙ ap (λ (b : Bool). cond b (Some entry) (entry_at table n)) (sym is)

-- an occurrence in front of others
pub one-first : (each : Occurrence) (done : List Occurrence) (n : ℕ) → option_map (λ (one : Occurrence). one.span) (find (is_of n) (each ∷ done))
    ≡ cond (each.parameter == n) (Some each.span) (option_map (λ (one : Occurrence). one.span) (find (is_of n) done))
one-first each done n = by (each.parameter == n)
  where
    by : (b : Bool) → option_map (λ (one : Occurrence). one.span) (cond b (Some each) (find (is_of n) done)) ≡ cond b (Some each.span) (option_map (λ (one : Occurrence). one.span) (find (is_of n) done))
    by true = refl
    by false = refl
