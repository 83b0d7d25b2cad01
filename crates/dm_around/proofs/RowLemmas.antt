-- The numbers of what passes among the first of some places.
use Rattle.std.proofs.Common.{◌≡◌, ℕ, zero, suc, ◌+◌, Bool, true, false, cond, List, [], ◌∷◌, ◌++◌, length, take, Option, Some, None, slice_get, refl, sym, ap, ◌∙◌, arith}
use Rattle.std.proofs.lemmas.List.{append-nil}
use Rattle.dm_sites.specs.Links.{passes}
use Rattle.dm_sites.specs.Sites.{Site}
use Rattle.dm_around.specs.Writes.{numbers_of}

more-by : (n : ℕ) (front back last : List ℕ) → back ≡ front ++ last → (b : Bool) → cond b (n ∷ back) back ≡ cond b (n ∷ front) front ++ last
more-by n front back last is true = ap (λ (them : List ℕ). n ∷ them) is
more-by n front back last is false = is

more-from : {A : Type 0} (test : A → Bool) (n : ℕ) (xs : List A) (x : A) → numbers_of test n (xs ++ x ∷ []) ≡ numbers_of test n xs ++ cond (test x) ((n + length xs) ∷ []) []
more-from test n [] x =
    let here : n ≡ n + 0 = omega arith in ap (λ (m : ℕ). cond {A = List ℕ} (test x) (m ∷ []) []) here
more-from test n (first ∷ xs) x =
    let next : suc n + length xs ≡ n + suc (length xs) = omega arith in
    more-by n (numbers_of test (suc n) xs) (numbers_of test (suc n) (xs ++ x ∷ [])) (cond (test x) ((n + suc (length xs)) ∷ []) [])
    (more-from test (suc n) xs x ∙ ap (λ (m : ℕ). numbers_of test (suc n) xs ++ cond (test x) (m ∷ []) []) next) (test first)

taken : {A : Type 0} (xs : List A) (i : ℕ) (x : A) → slice_get xs i ≡ Some x → (take (suc i) xs ≡ take i xs ++ x ∷ []) × (length (take i xs) ≡ i)
taken [] i x is = absurd (cc)
taken (y ∷ xs) zero x is =
    let same : y ≡ x = cc in (ap (λ one. one ∷ []) same, refl)
taken (y ∷ xs) (suc i) x is =
    let rest = taken xs i x is in
    let count = rest.1 in (ap (λ them. y ∷ them) rest.0, omega (arith, count))

none-taken : {A : Type 0} (xs : List A) (i : ℕ) → slice_get xs i ≡ None → take (suc i) xs ≡ take i xs
none-taken [] zero is = refl
none-taken [] (suc i) is = refl
none-taken (y ∷ xs) zero is = absurd (cc)
none-taken (y ∷ xs) (suc i) is = ap (λ them. y ∷ them) (none-taken xs i is)

pub next-number : (test : Site → Bool) (sites : List Site) (i : ℕ) (found : Option Site) → slice_get sites i ≡ found
    → numbers_of test 0 (take (i + 1) sites) ≡ numbers_of test 0 (take i sites) ++ cond (passes test found) (i ∷ []) []
next-number test sites i None is =
    let next : i + 1 ≡ suc i = omega arith in
    ap (λ (n : ℕ). numbers_of test 0 (take n sites)) next ∙ (ap (numbers_of test 0) (none-taken sites i is) ∙ sym (append-nil (numbers_of test 0 (take i sites))))
next-number test sites i (Some site) is =
    let more = taken sites i site is in
    let count = more.1 in
    let here : 0 + length (take i sites) ≡ i = omega (arith, count) in
    let next : i + 1 ≡ suc i = omega arith in
    (ap (λ (n : ℕ). numbers_of test 0 (take n sites)) next ∙ ap (numbers_of test 0) more.0)
    ∙ (more-from test 0 (take i sites) site ∙ ap (λ (m : ℕ). numbers_of test 0 (take i sites) ++ cond (test site) (m ∷ []) []) here)
