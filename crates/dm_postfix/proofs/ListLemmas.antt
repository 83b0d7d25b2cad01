-- Lists that are made element by element.
use Rattle.std.proofs.Common.{◌≡◌, ℕ, zero, suc, ◌+◌, List, [], ◌∷◌, ◌++◌, map, length, Some, slice_get, refl, sym, ap, subst, ◌∙◌, arith}
use Rattle.std.proofs.lemmas.List.{length-append}
use Rattle.std.proofs.lemmas.Option.{none-some, same_Some}

abbrev tail : {X : Type 0} → List X → List X
tail [] = []
tail (x ∷ xs) = xs

abbrev first_or : {X : Type 0} → X → List X → X
first_or d [] = d
first_or d (x ∷ xs) = x

head_same : {X : Type 0} (x y : X) (xs ys : List X) → x ∷ xs ≡ y ∷ ys → x ≡ y
head_same x y xs ys same = ap (first_or x) same

-- each element has a property
abbrev pub Each : {X : Type 0} → (X → Type 0) → List X → Type 0
Each P [] = Unit {0}
Each P (x ∷ xs) = P x × Each P xs

pub each-append : {X : Type 0} (P : X → Type 0) (xs ys : List X) → Each P xs → Each P ys → Each P (xs ++ ys)
each-append P [] ys a b = b
each-append P (x ∷ xs) ys a b = (a.0, each-append P xs ys a.1 b)

-- what a function makes of elements that have a property has another one
pub each-map : {X Y : Type 0} (P : X → Type 0) (Q : Y → Type 0) (f : X → Y) → ((x : X) → P x → Q (f x)) → (xs : List X) → Each P xs → Each Q (map f xs)
each-map P Q f step [] all = tt
each-map P Q f step (x ∷ xs) all = (step x all.0, each-map P Q f step xs all.1)

-- two ways round a square
pub map-square : {A B C D : Type 0} (f : A → B) (g : B → C) (h : A → D) (k : D → C) → ((x : A) → g (f x) ≡ k (h x)) → (xs : List A)
    → map g (map f xs) ≡ map k (map h xs)
map-square f g h k same [] = refl
map-square f g h k same (x ∷ xs) = ap (λ y. y ∷ map g (map f xs)) (same x) ∙ ap (λ ys. k (h x) ∷ ys) (map-square f g h k same xs)

pub append-map : {A B : Type 0} (f : A → B) (xs ys : List A) → map f (xs ++ ys) ≡ map f xs ++ map f ys
append-map f [] ys = refl
append-map f (x ∷ xs) ys = ap (λ rest. f x ∷ rest) (append-map f xs ys)

-- the same where elements have a property
pub map-square_each : {A B C D : Type 0} (P : A → Type 0) (f : A → B) (g : B → C) (h : A → D) (k : D → C) → ((x : A) → P x → g (f x) ≡ k (h x)) → (xs : List A)
    → Each P xs → map g (map f xs) ≡ map k (map h xs)
map-square_each P f g h k same [] all = refl
map-square_each P f g h k same (x ∷ xs) all = ap (λ y. y ∷ map g (map f xs)) (same x all.0) ∙ ap (λ ys. k (h x) ∷ ys) (map-square_each P f g h k same xs all.1)

pub map-through : {A C D : Type 0} (g : A → C) (h : A → D) (k : D → C) → ((x : A) → g x ≡ k (h x)) → (xs : List A) → map g xs ≡ map k (map h xs)
map-through g h k same [] = refl
map-through g h k same (x ∷ xs) = ap (λ y. y ∷ map g xs) (same x) ∙ ap (λ ys. k (h x) ∷ ys) (map-through g h k same xs)

-- the first element behind others
pub get-behind : {X : Type 0} (xs : List X) (x : X) (ys : List X) → slice_get (xs ++ x ∷ ys) (length xs) ≡ Some x
get-behind [] x ys = refl
get-behind (y ∷ xs) x ys = get-behind xs x ys

pub each-get : {X : Type 0} (P : X → Type 0) (xs : List X) (k : ℕ) (x : X) → Each P xs → slice_get xs k ≡ Some x → P x
each-get P [] k x all is = absurd (none-some x is)
each-get P (y ∷ xs) zero x all is = subst P (same_Some y x is) all.0
each-get P (y ∷ xs) (suc k) x all is = each-get P xs k x all.1 is

-- lists with ends of one length are the same where their ends and what is in front of them are
pub ends-same : {X : Type 0} (a b p q : List X) → length p ≡ length q → a ++ p ≡ b ++ q → (a ≡ b) × (p ≡ q)
ends-same [] [] p q size same = (refl, same)
ends-same [] (x ∷ b) p q size same = absurd (too-long (length b) (length q) (sym (ap length same ∙ ap suc (length-append b q)) ∙ size))
  where
    too-long : (m n : ℕ) → suc (m + n) ≡ n → ⊥
    too-long m n e = omega (arith, e)
ends-same (x ∷ a) [] p q size same = absurd (too-long (length a) (length p) ((sym (ap suc (length-append a p)) ∙ ap length same) ∙ sym size))
  where
    too-long : (m n : ℕ) → suc (m + n) ≡ n → ⊥
    too-long m n e = omega (arith, e)
ends-same (x ∷ a) (y ∷ b) p q size same =
    let rest = ends-same a b p q size (ap tail same) in
    (ap (λ z. z ∷ a) (head_same x y (a ++ p) (b ++ q) same) ∙ ap (λ c. y ∷ c) rest.0, rest.1)
