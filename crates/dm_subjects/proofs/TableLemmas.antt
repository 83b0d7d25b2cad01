-- Lists whose items are related one by one: from the last one on, and with one more.
use Rattle.std.proofs.Common.{◌≡◌, ◌≤◌, ◌<◌, ◌+◌, ◌⊎◌, inl, inr, ℕ, zero, suc, List, [], ◌∷◌, ◌++◌, length, map, reverse, take, get_or, Some, slice_get, refl, sym, ap, ◌∙◌, subst, arith, length-append, Vec, vec_len}
use Rattle.std.proofs.lemmas.Bool.{cases_lt}
use Rattle.std.proofs.lemmas.List.{length-take-le, map-append, reverse-append, take_more}
use Rattle.std.specs.Prelude.{All}
use Rattle.std.proofs.lemmas.List.Elements.{All-head, All-tail}
use Rattle.dm_meaning.specs.Replaced.{Zipped}
use Rattle.dm_align.proofs.StepLemmas.{AreSoFar, zipped-by}

module _ {A B : Type 0} (R : A → B → Type 0) where
  -- the last ones
  pub zipped-last : (xs : List A) (ys : List B) (x : A) (y : B) → Zipped R (xs ++ x ∷ []) (ys ++ y ∷ []) → Zipped R xs ys × R x y
  zipped-last [] [] x y z = (tt, z.0)
  zipped-last [] (b ∷ []) x y z = absurd z.1
  zipped-last [] (b ∷ c ∷ ys) x y z = absurd z.1
  zipped-last (a ∷ []) [] x y z = absurd z.1
  zipped-last (a ∷ c ∷ xs) [] x y z = absurd z.1
  zipped-last (a ∷ xs) (b ∷ ys) x y z = let rest = zipped-last xs ys x y z.1 in ((z.0, rest.0), rest.1)

  pub zipped-cons : (xs : List A) (ys : List B) (x : A) (y : B) → R x y → Zipped R xs ys → Zipped R (x ∷ xs) (y ∷ ys)
  zipped-cons xs ys x y related z = (related, z)

  -- the last of the first ones
  pub known-less : (xs : List A) (ys : List B) (y : B) (d : A) → length (ys ++ y ∷ []) ≤ length xs → Zipped R (take (length (ys ++ y ∷ [])) xs) (ys ++ y ∷ [])
      → Zipped R (take (length ys) xs) ys × R (get_or xs (length ys) d) y
  known-less xs ys y d inside z =
      let count : length (ys ++ y ∷ []) ≡ length ys + 1 = length-append ys (y ∷ []) in
      zipped-last (take (length ys) xs) ys (get_or xs (length ys) d) y
      (subst (λ (front : List A). Zipped R front (ys ++ y ∷ [])) (ap (λ n. take n xs) count ∙ take_more xs (length ys) d (omega (arith, count, inside))) z)

  -- one more
  same-item : (ys : List B) (y : B) (k : ℕ) (b : B) → k < length ys → slice_get (ys ++ y ∷ []) k ≡ Some b → slice_get ys k ≡ Some b
  same-item [] y k b less there = absurd (omega (arith, less))
  same-item (c ∷ ys) y zero b less there = there
  same-item (c ∷ ys) y (suc k) b less there = same-item ys y k b (omega (arith, less)) there

  new-item : (ys : List B) (y b : B) → slice_get (ys ++ y ∷ []) (length ys) ≡ Some b → y ≡ b
  new-item [] y b there = cc there
  new-item (c ∷ ys) y b there = new-item ys y b there

  pub so-far-pushed : (xs : List A) (ys : List B) (n : ℕ) (x : A) (y : B) → length ys ≡ n → AreSoFar R xs ys n → slice_get xs n ≡ Some x → R x y → AreSoFar R xs (ys ++ y ∷ []) (n + 1)
  so-far-pushed xs ys n x y many before here related k less a b at_k there = by (split k)
    where
      split : (m : ℕ) → (k < n) ⊎ (k ≡ n)
      split m = near (cases_lt k n)
        where
          near : (k < n) ⊎ (n ≤ k) → (k < n) ⊎ (k ≡ n)
          near (inl under) = inl under
          near (inr past) = let same : k ≡ n = omega (arith, past, less) in inr same

      by : (k < n) ⊎ (k ≡ n) → R a b
      by (inl under) = before k under a b at_k (same-item ys y k b (omega (arith, many, under)) there)
      by (inr same) =
          let left : x ≡ a = cc (sym here ∙ ap (slice_get xs) (sym same) ∙ at_k) in
          let right : y ≡ b = new-item ys y b (ap (slice_get (ys ++ y ∷ [])) (many ∙ sym same) ∙ there) in
          subst (λ c. R c b) left (subst (λ d. R x d) right related)

  pub all-related : (xs : List A) (ys : List B) (n : ℕ) → length xs ≡ length ys → length xs ≤ n → AreSoFar R xs ys n → Zipped R xs ys
  all-related xs ys n same whole before = zipped-by R xs ys same (λ k x y here there. before k (let less = within xs k x here in omega (arith, less, whole)) x y here there)
    where
      within : (cs : List A) (k : ℕ) (c : A) → slice_get cs k ≡ Some c → k < length cs
      within [] k c here = absurd (cc here)
      within (x ∷ cs) zero c here = omega arith
      within (x ∷ cs) (suc k) c here = let less = within cs k c here in omega (arith, less)

-- ---- what is mapped

module _ {A B : Type 0} (f : A → B) where
  pub slice-mapped : (xs : List A) (k : ℕ) (x : A) → slice_get xs k ≡ Some x → slice_get (map f xs) k ≡ Some (f x)
  slice-mapped [] k x there = absurd (cc there)
  slice-mapped (y ∷ xs) zero x there = let same : y ≡ x = cc there in ap (λ z. Some (f z)) same
  slice-mapped (y ∷ xs) (suc k) x there = slice-mapped xs k x there

  pub count-mapped : (xs : List A) → length (map f xs) ≡ length xs
  count-mapped [] = refl
  count-mapped (x ∷ xs) = ap suc (count-mapped xs)

  pub mapped-back : (xs : List A) → map f (reverse xs) ≡ reverse (map f xs)
  mapped-back [] = refl
  mapped-back (x ∷ xs) =
      ap (map f) (reverse-append (x ∷ []) xs) ∙ map-append f (reverse xs) (x ∷ []) ∙ ap (λ front. front ++ f x ∷ []) (mapped-back xs) ∙ sym (reverse-append (f x ∷ []) (map f xs))

  pub back-more : (xs : List A) (x : A) → reverse (map f (xs ++ x ∷ [])) ≡ f x ∷ reverse (map f xs)
  back-more xs x = ap reverse (map-append f xs (x ∷ [])) ∙ reverse-append (map f xs) (f x ∷ [])

pub back-one : {A : Type 0} (xs : List A) (x : A) → reverse (xs ++ x ∷ []) ≡ x ∷ reverse xs
back-one xs x = reverse-append xs (x ∷ [])

-- ---- fronts

pub take-whole : {A : Type 0} (xs : List A) (n : ℕ) → length xs ≡ n → take n xs ≡ xs
take-whole [] zero same = refl
take-whole [] (suc n) same = refl
take-whole (x ∷ xs) zero same = absurd (omega (arith, same))
take-whole (x ∷ xs) (suc n) same = ap (λ rest. x ∷ rest) (take-whole xs n (omega (arith, same)))

pub taken-length : {A : Type 0} (xs : List A) (n : ℕ) → n ≤ length xs → length (take n xs) ≡ n
taken-length xs n le = length-take-le n xs le

pub last-same : {A : Type 0} (xs ys : List A) (x y : A) → xs ++ x ∷ [] ≡ ys ++ y ∷ [] → length xs ≡ length ys → (xs ≡ ys) × (x ≡ y)
last-same [] [] x y same count = (refl, cc same)
last-same [] (b ∷ ys) x y same count = absurd (omega (arith, count))
last-same (a ∷ xs) [] x y same count = absurd (omega (arith, count))
last-same (a ∷ xs) (b ∷ ys) x y same count =
    let first : a ≡ b = cc same in
    let others : xs ++ x ∷ [] ≡ ys ++ y ∷ [] = cc same in
    let rest = last-same xs ys x y others (omega (arith, count)) in
    (ap (λ c. c ∷ xs) first ∙ ap (λ cs. b ∷ cs) rest.0, rest.1)

pub vec-count : {X Z : Type 0} (v : Vec X Z) → vec_len v ≡ length v.items
vec-count v = v.ok.0

-- what all have
pub all-mapped : {A B : Type 0} (P : B → Type 0) (f : A → B) (xs : List A) (i : ℕ) (d : A) → i < length xs → All P (map f xs) → P (f (get_or xs i d))
all-mapped P f [] i d inside all = absurd (omega (arith, inside))
all-mapped P f (x ∷ xs) zero d inside all = All-head P (f x) (map f xs) all
all-mapped P f (x ∷ xs) (suc i) d inside all = all-mapped P f xs i d (omega (arith, inside)) (All-tail P (f x) (map f xs) all)
