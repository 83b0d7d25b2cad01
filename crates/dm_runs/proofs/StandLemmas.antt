-- Where an occurrence would stand.
use Rattle.std.proofs.Common.{◌≡◌, ℕ, zero, suc, ◌+◌, ◌<◌, ◌≤◌, Bool, true, false, cond, List, [], ◌∷◌, ◌++◌, length, drop, get_or, Option, Some, None, slice_get, MatchOption, refl, sym, ap, ◌∙◌, arith, add-zero, length-append}
use Rattle.std.specs.Prelude.{find}
use Rattle.std.specs.List.{position_from}
use Rattle.std.proofs.lemmas.Bool.{cond-true, cond-false}
use Rattle.std.proofs.lemmas.List.{at_drop_more}
use Rattle.dm_token.specs.declared.expansion.Mark.{Mark}
use Rattle.dm_runs.proofs.ItemLemmas.{some-same, push-same}

pub slice_get-other : {A : Type 0} (xs : List A) (x : A) (k : ℕ) → (k ≡ length xs → ⊥) → slice_get (xs ++ x ∷ []) k ≡ slice_get xs k
slice_get-other [] x zero apart = absurd (apart refl)
slice_get-other [] x (suc k) apart = refl
slice_get-other (y ∷ xs) x zero apart = refl
slice_get-other (y ∷ xs) x (suc k) apart = slice_get-other xs x k (λ e. apart (ap suc e))

-- the innermost mark
pub last-is : (found : Option Mark) (whole shorter : List Mark) (mark : Mark) → MatchOption found (whole ≡ []) (λ other. (outer : List Mark) × (whole ≡ outer ++ other ∷ [])) → whole ≡ shorter ++ mark ∷ [] → found ≡ Some mark
last-is None whole shorter mark h e = absurd (omega (arith, ap length (sym h ∙ e), length-append shorter (mark ∷ [])))
last-is (Some other) whole shorter mark h e = ap Some (push-same h.0 shorter other mark (sym h.1 ∙ e)).1

-- the first item that passes
pub position-at : {A : Type 0} (test : A → Bool) (at : ℕ) (xs : List A) (k : ℕ) (x : A) → slice_get xs k ≡ Some x → test x ≡ true
    → ((j : ℕ) (y : A) → j < k → slice_get xs j ≡ Some y → test y ≡ false) → position_from test at xs ≡ Some (at + k)
position-at test at [] k x is passes before = cc
position-at test at (y ∷ xs) zero x is passes before =
    cond-true (test y) (Some at) (position_from test (at + 1) xs) (ap test (some-same y x is) ∙ passes) ∙ ap Some (sym (add-zero at))
position-at test at (y ∷ xs) (suc k) x is passes before =
    cond-false (test y) (Some at) (position_from test (at + 1) xs) (before 0 y (omega arith) refl)
    ∙ position-at test (at + 1) xs k x is passes (λ j z lt e. before (suc j) z (omega (arith, lt)) e)
    ∙ ap Some (omega arith)
