-- Searches through lists.
use Rattle.std.proofs.Common.{◌≡◌, Bool, true, false, List, [], ◌∷◌, ◌++◌, Some, None, refl, sym, ap, ◌∙◌, cond}
use Rattle.std.specs.Prelude.{find}

by-test : {P : Type 0} (b : Bool) → (b ≡ true → P) → (b ≡ false → P) → P
by-test true holds fails = holds refl
by-test false holds fails = fails refl

module _ {A : Type 0} where
  -- a search goes through a list and then through the next
  pub found-front : (test : A → Bool) (xs ys : List A) (x : A) → find test xs ≡ Some x → find test (xs ++ ys) ≡ Some x
  found-front test [] ys x h = absurd (cc h)
  found-front test (y ∷ xs) ys x h =
      by-test (test y)
      (λ e. ap (λ b. cond b (Some y) (find test (xs ++ ys))) e ∙ sym (ap (λ b. cond b (Some y) (find test xs)) e) ∙ h)
      (λ e. ap (λ b. cond b (Some y) (find test (xs ++ ys))) e ∙ found-front test xs ys x (sym (ap (λ b. cond b (Some y) (find test xs)) e) ∙ h))

  pub found-behind : (test : A → Bool) (xs ys : List A) → find test xs ≡ None → find test (xs ++ ys) ≡ find test ys
  found-behind test [] ys h = refl
  found-behind test (y ∷ xs) ys h =
      by-test (test y)
      (λ e. absurd (cc (sym (ap (λ b. cond b (Some y) (find test xs)) e), h)))
      (λ e. ap (λ b. cond b (Some y) (find test (xs ++ ys))) e ∙ found-behind test xs ys (sym (ap (λ b. cond b (Some y) (find test xs)) e) ∙ h))

  -- tests that agree find the same
  pub found-same : (test other : A → Bool) → ((x : A) → test x ≡ other x) → (xs : List A) → find test xs ≡ find other xs
  found-same test other agree [] = refl
  found-same test other agree (x ∷ xs) =
      ap (λ b. cond b (Some x) (find test xs)) (agree x) ∙ ap (λ found. cond (other x) (Some x) found) (found-same test other agree xs)
