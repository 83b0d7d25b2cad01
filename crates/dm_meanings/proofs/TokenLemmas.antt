-- What passes among tokens that are left.
use Rattle.std.proofs.Common.{◌≡◌, ℕ, suc, ◌+◌, ◌-◌, ◌<◌, ◌≤◌, Bool, true, false, cond, ◌&&◌, not, List, ◌∷◌, refl, sym, ap, ◌∙◌, arith}
use Rattle.std.specs.Prelude.{filter}
use Rattle.std.specs.List.{list_all, range_with_len}

module _ (test own : ℕ → Bool) (at after : ℕ) (whole : Bool) (left : list_all test (filter own (range_with_len at (after - at))) ≡ whole) where
  pub no-token : after ≤ at → whole ≡ true
  no-token end = let none : after - at ≡ 0 = omega (arith, end) in sym left ∙ ap (λ n. list_all test (filter own (range_with_len at n))) none

  module _ (inside : at < after) where
    next-token : list_all test (cond (own at) (at ∷ filter own (range_with_len (at + 1) (after - (at + 1)))) (filter own (range_with_len (at + 1) (after - (at + 1))))) ≡ whole
    next-token =
        let more : after - at ≡ suc (after - (at + 1)) = omega (arith, inside) in
        sym (ap (λ n. list_all test (filter own (range_with_len at n))) more) ∙ left

    first-own : (b c : Bool) (rest : List ℕ) → own at ≡ b → test at ≡ c → list_all test (cond b (at ∷ rest) rest) ≡ (not (b && not c) && list_all test rest)
    first-own true true rest own is = ap (λ c. c && list_all test rest) is
    first-own true false rest own is = ap (λ c. c && list_all test rest) is
    first-own false c rest own is = refl

    pub token-passes : false ≡ (own at && not (test at)) → list_all test (filter own (range_with_len (at + 1) (after - (at + 1)))) ≡ whole
    token-passes passes =
        let rest = filter own (range_with_len (at + 1) (after - (at + 1))) in
        ap (λ b. not b && list_all test rest) passes ∙ sym (first-own (own at) (test at) rest refl refl) ∙ next-token

    pub token-fails : true ≡ (own at && not (test at)) → whole ≡ false
    token-fails fails =
        let rest = filter own (range_with_len (at + 1) (after - (at + 1))) in
        sym next-token ∙ first-own (own at) (test at) rest refl refl ∙ ap (λ b. not b && list_all test rest) (sym fails)
