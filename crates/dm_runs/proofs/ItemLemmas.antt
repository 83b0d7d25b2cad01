-- Items of lists by position.
use Rattle.std.proofs.Common.{◌≡◌, ℕ, zero, suc, ◌+◌, Bool, true, false, ◌||◌, ◌⊎◌, inl, inr, List, [], ◌∷◌, ◌++◌, length, drop, Option, Some, slice_get, refl, sym, ap, ◌∙◌, arith, length-append}
use Rattle.std.specs.List.{list_any}
use Rattle.std.proofs.lemmas.Bool.{false≢true}

pub some-same : {A : Type 0} (x y : A) → ◌≡◌ {A = Option A} (Some x) (Some y) → x ≡ y
some-same x y e = cc

pub slice_get-left : {A : Type 0} (xs ys : List A) (k : ℕ) (x : A) → slice_get xs k ≡ Some x → slice_get (xs ++ ys) k ≡ Some x
slice_get-left [] ys k x e = cc
slice_get-left (y ∷ xs) ys zero x e = e
slice_get-left (y ∷ xs) ys (suc k) x e = slice_get-left xs ys k x e

pub slice_get-last : {A : Type 0} (xs : List A) (x : A) → slice_get (xs ++ x ∷ []) (length xs) ≡ Some x
slice_get-last [] x = refl
slice_get-last (y ∷ xs) x = slice_get-last xs x

-- an item behind the first ones
pub slice_get-drop : {A : Type 0} (n : ℕ) (xs : List A) (i : ℕ) → slice_get (drop n xs) i ≡ slice_get xs (n + i)
slice_get-drop zero xs i = let e : i ≡ 0 + i = omega arith in ap (slice_get xs) e
slice_get-drop (suc n) [] i = refl
slice_get-drop (suc n) (x ∷ xs) i = let e : suc (n + i) ≡ suc n + i = omega arith in slice_get-drop n xs i ∙ ap (slice_get (x ∷ xs)) e

-- an item of a list that has one more
pub slice_get-push : {A : Type 0} (xs : List A) (x : A) (k : ℕ) (y : A) → slice_get (xs ++ x ∷ []) k ≡ Some y → (slice_get xs k ≡ Some y) ⊎ ((k ≡ length xs) × (y ≡ x))
slice_get-push [] x zero y e = inr (refl, sym (some-same x y e))
slice_get-push [] x (suc k) y e = cc
slice_get-push (z ∷ xs) x zero y e = inl e
slice_get-push (z ∷ xs) x (suc k) y e =
    elim (slice_get-push xs x k y e) [ inl h ↦ inl h | inr h ↦ inr (ap suc h.0, h.1) ]

-- an item that passes
pub any-at : {A : Type 0} (test : A → Bool) (xs : List A) (k : ℕ) (x : A) → slice_get xs k ≡ Some x → test x ≡ true → list_any test xs ≡ true
any-at test [] k x e passes = cc
any-at test (y ∷ xs) zero x e passes = ap (λ b. b || list_any test xs) (ap test (some-same y x e) ∙ passes)
any-at test (y ∷ xs) (suc k) x e passes =
    elim (test y) as (λ b. (b || list_any test xs) ≡ true) [ true ↦ refl | false ↦ any-at test xs k x e passes ]

pub record Passing {A : Type 0} (test : A → Bool) (xs : List A) : Type 0 where
  pub place : ℕ
  pub item : A
  pub is : slice_get xs place ≡ Some item
  pub passes : test item ≡ true

further : {A : Type 0} (test : A → Bool) (y : A) (xs : List A) → Passing test xs → Passing test (y ∷ xs)
further test y xs found = record { place = suc found.place; item = found.item; is = found.is; passes = found.passes }

pub at-any : {A : Type 0} (test : A → Bool) (xs : List A) → list_any test xs ≡ true → Passing test xs
at-any test [] e = absurd (false≢true e)
at-any test (y ∷ xs) e =
    elim (test y) as (λ b. test y ≡ b → (b || list_any test xs) ≡ true → Passing test (y ∷ xs)) [
      | true ↦ λ is h. record { place = 0; item = y; is = refl; passes = is }
      | false ↦ λ is h. further test y xs (at-any test xs h)
    ] refl e

no-more : {A : Type 0} (b : A) (ys : List A) (y : A) → ◌≡◌ {A = ℕ} 1 (length (b ∷ ys ++ y ∷ [])) → ⊥
no-more b ys y n = omega (arith, length-append ys (y ∷ []), n)

-- one list ends in one item, and so does the other
pub push-same : {A : Type 0} (xs ys : List A) (x y : A) → xs ++ x ∷ [] ≡ ys ++ y ∷ [] → (xs ≡ ys) × (x ≡ y)
push-same [] [] x y e = (refl, cc)
push-same [] (b ∷ ys) x y e = absurd (let n : 1 ≡ length (b ∷ ys ++ y ∷ []) = ap length e in no-more b ys y n)
push-same (a ∷ xs) [] x y e = absurd (let n : length (a ∷ xs ++ x ∷ []) ≡ 1 = ap length e in no-more a xs x (sym n))
push-same (a ∷ xs) (b ∷ ys) x y e =
    let heads : a ≡ b = cc in
    let tails : xs ++ x ∷ [] ≡ ys ++ y ∷ [] = cc in
    let inner = push-same xs ys x y tails in
    let fronts : xs ≡ ys = inner.0 in
    (cc, inner.1)
