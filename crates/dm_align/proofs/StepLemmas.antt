-- Two lists compared one by one.
use Rattle.std.proofs.Common.{◌≡◌, ◌↔◌, ◌≤◌, ◌<◌, ◌+◌, ℕ, zero, suc, Bool, true, false, ◌&&◌, IsTrue, List, [], ◌∷◌, ◌++◌, length, map, take, drop, Some, option_map, slice_get, refl, sym, ap, ◌∙◌, subst, arith}
use borrow.Author.Count.{below_more}
use Rattle.std.proofs.lemmas.Bool.{and_parts}
use Rattle.std.specs.List.{list_all}
use Rattle.std.proofs.lemmas.List.{length-append}
use Rattle.dm_tree.specs.TypeNumbers.{all_pass}
use Rattle.dm_meaning.specs.Replaced.{Zipped}
use Rattle.dm_agree.proofs.StepLemmas.{never, denied}
use Rattle.dm_align.specs.Units.{without}

-- ---- lists whose items are related one by one

module _ {A B : Type 0} (R : A → B → Type 0) where
  -- those before a position are
  abbrev pub AreSoFar : List A → List B → ℕ → Type 0
  AreSoFar xs ys n = (k : ℕ) → k < n → (x : A) (y : B) → slice_get xs k ≡ Some x → slice_get ys k ≡ Some y → R x y

  pub zipped-length : (xs : List A) (ys : List B) → Zipped R xs ys → length xs ≡ length ys
  zipped-length [] [] z = refl
  zipped-length [] (y ∷ ys) z = absurd z
  zipped-length (x ∷ xs) [] z = absurd z
  zipped-length (x ∷ xs) (y ∷ ys) z = ap suc (zipped-length xs ys z.1)

  pub zipped-at : (xs : List A) (ys : List B) → Zipped R xs ys → (k : ℕ) (x : A) (y : B) → slice_get xs k ≡ Some x → slice_get ys k ≡ Some y → R x y
  zipped-at [] ys z k x y here there = absurd (cc)
  zipped-at (a ∷ xs) [] z k x y here there = absurd z
  zipped-at (a ∷ xs) (b ∷ ys) z zero x y here there =
      let left : a ≡ x = cc in let right : b ≡ y = cc in
      subst (λ c. R c y) left (subst (λ d. R a d) right z.0)
  zipped-at (a ∷ xs) (b ∷ ys) z (suc k) x y here there = zipped-at xs ys z.1 k x y here there

  pub zipped-by : (xs : List A) (ys : List B) → length xs ≡ length ys → ((k : ℕ) (x : A) (y : B) → slice_get xs k ≡ Some x → slice_get ys k ≡ Some y → R x y) → Zipped R xs ys
  zipped-by [] [] same each = tt
  zipped-by [] (y ∷ ys) same each = absurd (cc)
  zipped-by (x ∷ xs) [] same each = absurd (cc)
  zipped-by (x ∷ xs) (y ∷ ys) same each = (each 0 x y refl refl, zipped-by xs ys (cc) (λ k a b here there. each (suc k) a b here there))

  within : {C : Type 0} (cs : List C) (k : ℕ) (c : C) → slice_get cs k ≡ Some c → k < length cs
  within [] k c here = absurd (cc)
  within (x ∷ cs) zero c here = omega arith
  within (x ∷ cs) (suc k) c here = let less = within cs k c here in omega arith

  pub other-lengths : (xs : List A) (ys : List B) → (length xs ≡ length ys → ⊥) → IsTrue false ↔ Zipped R xs ys
  other-lengths xs ys other = never (λ z. other (zipped-length xs ys z))

  pub differ : (xs : List A) (ys : List B) (n : ℕ) (x : A) (y : B) → slice_get xs n ≡ Some x → slice_get ys n ≡ Some y
      → (test : Bool) → (IsTrue test ↔ R x y) → test ≡ false → IsTrue false ↔ Zipped R xs ys
  differ xs ys n x y here there test says refused = denied test says refused (λ z. zipped-at xs ys z n x y here there)

  pub one-more : (xs : List A) (ys : List B) (n : ℕ) (x : A) (y : B) → slice_get xs n ≡ Some x → slice_get ys n ≡ Some y
      → (test : Bool) → (IsTrue test ↔ R x y) → test ≡ true → AreSoFar xs ys n → AreSoFar xs ys (n + 1)
  one-more xs ys n x y here there test says passed before =
      below_more (λ k. (a : A) (b : B) → slice_get xs k ≡ Some a → slice_get ys k ≡ Some b → R a b) n before
      (λ a b at_n other. let left : x ≡ a = cc in let right : y ≡ b = cc in subst (λ c. R c b) left (subst (λ d. R x d) right (says.0 passed)))

  pub all-are : (xs : List A) (ys : List B) (n : ℕ) → length xs ≡ length ys → length xs ≤ n → AreSoFar xs ys n → IsTrue true ↔ Zipped R xs ys
  all-are xs ys n same whole before =
      (λ e. zipped-by xs ys same (λ k x y here there. before k (let less = within xs k x here in omega arith) x y here there), λ z. refl)

-- ---- by what the items stand for

pub zipped-map : {A B C D : Type 0} (R : C → D → Type 0) (f : A → C) (g : B → D) (xs : List A) (ys : List B) → Zipped (λ x y. R (f x) (g y)) xs ys ↔ Zipped R (map f xs) (map g ys)
zipped-map R f g [] [] = (λ z. z, λ z. z)
zipped-map R f g [] (y ∷ ys) = (λ z. z, λ z. z)
zipped-map R f g (x ∷ xs) [] = (λ z. z, λ z. z)
zipped-map R f g (x ∷ xs) (y ∷ ys) = let rest = zipped-map R f g xs ys in (λ z. (z.0, rest.0 z.1), λ z. (z.0, rest.1 z.1))

pub zipped-same : {A B C : Type 0} (f : A → C) (g : B → C) (xs : List A) (ys : List B) → Zipped (λ x y. f x ≡ g y) xs ys ↔ (map f xs ≡ map g ys)
zipped-same f g [] [] = (λ z. refl, λ e. tt)
zipped-same f g [] (y ∷ ys) = (λ z. absurd z, λ e. absurd (cc))
zipped-same f g (x ∷ xs) [] = (λ z. absurd z, λ e. absurd (cc))
zipped-same f g (x ∷ xs) (y ∷ ys) =
    let rest = zipped-same f g xs ys in
    (λ z. let first = z.0 in let others = rest.0 z.1 in cc, λ e. let first : f x ≡ g y = cc in let others : map f xs ≡ map g ys = cc in (first, rest.1 others))

-- ---- what is shown of items

pub there : {A : Type 0} (xs : List A) (n : ℕ) → n < length xs → (x : A) × (slice_get xs n ≡ Some x)
there [] n less = absurd (omega arith)
there (x ∷ xs) zero less = (x, refl)
there (x ∷ xs) (suc n) less = there xs n (omega arith)

pub shown-at : {A B C : Type 0} (f : A → C) (g : B → C) (xs : List A) (ys : List B) (n : ℕ) (x : A) (y : B) → slice_get xs n ≡ Some x → slice_get ys n ≡ Some y
    → (option_map f (slice_get xs n) ≡ option_map g (slice_get ys n)) ↔ (f x ≡ g y)
shown-at f g xs ys n x y here other = (
  λ e. let both : Some (f x) ≡ Some (g y) = sym (ap (option_map f) here) ∙ (e ∙ ap (option_map g) other) in cc,
  λ e. ap (option_map f) here ∙ (ap Some e ∙ sym (ap (option_map g) other)),
)

pub zipped-as : {A B : Type 0} (g : B → A) (xs : List A) (ys : List B) → Zipped (λ x y. x ≡ g y) xs ys ↔ (xs ≡ map g ys)
zipped-as g [] [] = (λ z. refl, λ e. tt)
zipped-as g [] (y ∷ ys) = (λ z. absurd z, λ e. absurd (cc))
zipped-as g (x ∷ xs) [] = (λ z. absurd z, λ e. absurd (cc))
zipped-as g (x ∷ xs) (y ∷ ys) =
    let rest = zipped-as g xs ys in
    (λ z. let first = z.0 in let others = rest.0 z.1 in cc, λ e. let first : x ≡ g y = cc in let others : xs ≡ map g ys = cc in (first, rest.1 others))

-- ---- a list in two parts

module _ {A B : Type 0} (R : A → B → Type 0) where
  pub zipped-parts : (front back : List A) (ys : List B) → length front ≤ length ys
      → (Zipped R front (take (length front) ys) × Zipped R back (drop (length front) ys)) ↔ Zipped R (front ++ back) ys
  zipped-parts [] back ys enough = (λ z. z.1, λ z. (tt, z))
  zipped-parts (x ∷ front) back [] enough = absurd (omega arith)
  zipped-parts (x ∷ front) back (y ∷ ys) enough =
      let rest = zipped-parts front back ys (omega arith) in
      (λ z. (z.0.0, rest.0 (z.0.1, z.1)), λ z. let more = rest.1 z.1 in ((z.0, more.0), more.1))

  pub too-short : (front back : List A) (ys : List B) → length ys < length front → IsTrue false ↔ Zipped R (front ++ back) ys
  too-short front back ys less = never (λ z. let same = zipped-length R (front ++ back) ys z in let more = length-append front back in absurd (omega (arith, same, more, less)))

-- ---- a list without a part of it

module _ {A B : Type 0} (R : A → B → Type 0) (xs : List A) (ys : List B) (from count : ℕ) (front back : List A)
    (front_is : front ≡ take from xs) (back_is : back ≡ drop (from + count) xs) where
  whole : front ++ back ≡ without from count xs
  whole = ap (λ one. one ++ back) front_is ∙ ap (λ one. take from xs ++ one) back_is

  pub around-parts : (before behind : List B) → before ≡ take (length front) ys → behind ≡ drop (length front) ys → length front ≤ length ys
      → (Zipped R front before × Zipped R back behind) ↔ Zipped R (without from count xs) ys
  around-parts before behind before_is behind_is enough =
      subst (λ one. (Zipped R front one × Zipped R back behind) ↔ Zipped R (without from count xs) ys) (sym before_is)
      (subst (λ one. (Zipped R front (take (length front) ys) × Zipped R back one) ↔ Zipped R (without from count xs) ys) (sym behind_is)
      (subst (λ one. (Zipped R front (take (length front) ys) × Zipped R back (drop (length front) ys)) ↔ Zipped R one ys) whole (zipped-parts R front back ys enough)))

  pub around-short : length ys < length front → IsTrue false ↔ Zipped R (without from count xs) ys
  around-short less = subst (λ one. IsTrue false ↔ Zipped R one ys) whole (too-short R front back ys less)

-- both tests, where one decides the first part and the other the rest
pub both-parts : {P Q : Type 0} (test : Bool) → (IsTrue test ↔ Q) → P → IsTrue test ↔ (P × Q)
both-parts test says p = (λ e. (p, says.0 e), λ both. says.1 both.1)

pub first-fails : {P Q : Type 0} (test : Bool) → (IsTrue test ↔ P) → test ≡ false → IsTrue false ↔ (P × Q)
first-fails test says refused = denied test says refused (λ both. both.0)

-- ---- a test that all items pass

pub list-take : {A : Type 0} (p : A → Bool) (n : ℕ) (xs : List A) → IsTrue (list_all p xs) → IsTrue (list_all p (take n xs))
list-take p zero xs h = refl
list-take p (suc n) [] h = h
list-take p (suc n) (x ∷ xs) h =
    let both = and_parts (p x) (list_all p xs) h in let rest : list_all p (take n xs) ≡ true = list-take p n xs both.1 in ap (λ one. one && list_all p (take n xs)) both.0 ∙ rest

pub list-drop : {A : Type 0} (p : A → Bool) (n : ℕ) (xs : List A) → IsTrue (list_all p xs) → IsTrue (list_all p (drop n xs))
list-drop p zero xs h = h
list-drop p (suc n) [] h = h
list-drop p (suc n) (x ∷ xs) h = list-drop p n xs (and_parts (p x) (list_all p xs) h).1

pub pass-each : {A : Type 0} (p : A → Bool) (xs : List A) → list_all p xs ≡ all_pass (map p xs)
pass-each p [] = refl
pass-each p (x ∷ xs) = ap (λ rest. p x && rest) (pass-each p xs)
