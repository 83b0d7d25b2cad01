-- Numbers that rise.
--     Rises automatic low numbers high      those of automatic objects are at least `low`, each is greater than those before it, and all are less
--         than `high`
use Rattle.std.specs.Prelude.{◌≡◌, refl, ℕ, suc, ◌+◌, ◌<◌, ◌≤◌, Bool, true, false, MatchBool, List, [], ◌∷◌, ◌++◌}
use Rattle.std.proofs.Common.{sym, ◌∙◌, subst, inl, inr, true≢false, arith}
use Rattle.dm_meaning.specs.Among.{IsAmong}
use Rattle.dm_initialised.specs.Units.{AreOnce}

module _ (automatic : ℕ → Bool) where
  abbrev pub Rises : ℕ → List ℕ → ℕ → Type 0
  Rises low [] high = low ≤ high
  Rises low (d ∷ ds) high = MatchBool (automatic d) ((low ≤ d) × Rises (suc d) ds high) (Rises low ds high)

  pub wider : (lower low high higher : ℕ) (ds : List ℕ) → lower ≤ low → high ≤ higher → Rises low ds high → Rises lower ds higher
  wider lower low high higher [] l h r = omega (arith, l, h, r)
  wider lower low high higher (d ∷ ds) l h r =
      by-test (λ q. wider (suc d) (suc d) high higher ds (omega arith) h q) (λ q. wider lower low high higher ds l h q) (automatic d) r
    where
      by-test : (Rises (suc d) ds high → Rises (suc d) ds higher) → (Rises low ds high → Rises lower ds higher) → (test : Bool)
          → MatchBool test ((low ≤ d) × Rises (suc d) ds high) (Rises low ds high) → MatchBool test ((lower ≤ d) × Rises (suc d) ds higher) (Rises lower ds higher)
      by-test behind rest true r = let below = r.0 in (omega (arith, l, below), behind r.1)
      by-test behind rest false r = rest r

  pub joined : (low mid high : ℕ) (ds es : List ℕ) → Rises low ds mid → Rises mid es high → Rises low (ds ++ es) high
  joined low mid high [] es r q = wider low mid high high es r (omega arith) q
  joined low mid high (d ∷ ds) es r q = by-test (λ p. joined (suc d) mid high ds es p q) (λ p. joined low mid high ds es p q) (automatic d) r
    where
      by-test : (Rises (suc d) ds mid → Rises (suc d) (ds ++ es) high) → (Rises low ds mid → Rises low (ds ++ es) high) → (test : Bool)
          → MatchBool test ((low ≤ d) × Rises (suc d) ds mid) (Rises low ds mid) → MatchBool test ((low ≤ d) × Rises (suc d) (ds ++ es) high) (Rises low (ds ++ es) high)
      by-test behind rest true r = (r.0, behind r.1)
      by-test behind rest false r = rest r

  pub one_new : (low d high : ℕ) → low ≤ d → d < high → Rises low (d ∷ []) high
  one_new low d high l h = by-test (automatic d)
    where
      by-test : (test : Bool) → MatchBool test ((low ≤ d) × (suc d ≤ high)) (low ≤ high)
      by-test true = (l, omega (arith, h))
      by-test false = omega (arith, l, h)

  pub one_other : (low d high : ℕ) → automatic d ≡ false → low ≤ high → Rises low (d ∷ []) high
  one_other low d high other h = subst (λ test. MatchBool test ((low ≤ d) × (suc d ≤ high)) (low ≤ high)) (sym other) h

  -- ---- no number comes twice

  above : (low high d : ℕ) (ds : List ℕ) → Rises low ds high → automatic d ≡ true → IsAmong d ds → low ≤ d
  above low high d [] r is among = absurd among
  above low high d (n ∷ ds) r is (inl e) =
      subst (λ it. low ≤ it) (sym e) (by-test (automatic n) (subst (λ it. automatic it ≡ true) e is) r)
    where
      by-test : (test : Bool) → test ≡ true → MatchBool test ((low ≤ n) × Rises (suc n) ds high) (Rises low ds high) → low ≤ n
      by-test true is r = r.0
      by-test false is r = absurd (true≢false (sym is))
  above low high d (n ∷ ds) r is (inr among) = by-test (λ q. above (suc n) high d ds q is among) (λ q. above low high d ds q is among) (automatic n) r
    where
      by-test : (Rises (suc n) ds high → suc n ≤ d) → (Rises low ds high → low ≤ d) → (test : Bool) → MatchBool test ((low ≤ n) × Rises (suc n) ds high) (Rises low ds high) → low ≤ d
      by-test behind rest true r = let before = r.0 in let after = behind r.1 in omega (arith, before, after)
      by-test behind rest false r = rest r

  pub rising_once : (low high : ℕ) (ds : List ℕ) → Rises low ds high → AreOnce automatic ds
  rising_once low high [] r = tt
  rising_once low high (d ∷ ds) r = by-test (λ q. rising_once (suc d) high ds q) (λ q. rising_once low high ds q) (automatic d) refl r
    where
      by-test : (Rises (suc d) ds high → AreOnce automatic ds) → (Rises low ds high → AreOnce automatic ds) → (test : Bool) → automatic d ≡ test
          → MatchBool test ((low ≤ d) × Rises (suc d) ds high) (Rises low ds high) → (automatic d ≡ true → IsAmong d ds → ⊥) × AreOnce automatic ds
      by-test behind rest true e r = (λ is among. let after = above (suc d) high d ds r.1 is among in omega (arith, after), behind r.1)
      by-test behind rest false e r = (λ is among. absurd (true≢false (sym is ∙ e)), rest r)
