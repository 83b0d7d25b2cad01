-- When two lists are equal, item by item.
use Rattle.std.proofs.Common.{◌≡◌, ℕ, ◌+◌, ◌<◌, Bool, true, false, not, ◌&&◌, List, [], ◌∷◌, ◌++◌, map, length, get_or, take, refl, sym, ap, ◌∙◌, bytes_eq, nat_eq, ◌↔◌}
use mathlib.Core.Bool.{beq}
use Rattle.std.specs.Cmp.Lexicographic.{pointwise}
use Rattle.std.proofs.lemmas.Bool.{false≢true, eqb-true, eq-eqb}
use Rattle.std.proofs.lemmas.List.{get_or-map, take_more, map-append}

module _ {X K : Type 0} (f : X → K) where
  -- lists whose items differ somewhere differ
  pub differ_at : (one other : List X) (i : ℕ) (x y : X) → x ≡ get_or one i x → y ≡ get_or other i y → i < length one → i < length other → (f x ≡ f y → ⊥) → map f one ≡ map f other → ⊥
  differ_at one other i x y is_x is_y lt_one lt_other apart same =
      apart (ap f is_x ∙ sym (get_or-map f one i x (f x) lt_one) ∙ ap (λ ks. get_or ks i (f x)) same ∙ get_or-map f other i y (f x) lt_other ∙ sym (ap f is_y))

  ended : (xs : List X) (i : ℕ) (x : X) → i < length xs → x ≡ get_or xs i x → map f (take (i + 1) xs) ≡ map f (take i xs) ++ f x ∷ []
  ended xs i x lt is = ap (map f) (take_more xs i x lt) ∙ map-append f (take i xs) (get_or xs i x ∷ []) ∙ ap (λ y. map f (take i xs) ++ f y ∷ []) (sym is)

  -- one more item that is the same
  pub same_more : (one other : List X) (i : ℕ) (x y : X) → x ≡ get_or one i x → y ≡ get_or other i y → i < length one → i < length other → f x ≡ f y
      → map f (take i one) ≡ map f (take i other) → map f (take (i + 1) one) ≡ map f (take (i + 1) other)
  same_more one other i x y is_x is_y lt_one lt_other alike same =
      ended one i x lt_one is_x ∙ (λ j. same j ++ alike j ∷ []) ∙ sym (ended other i y lt_other is_y)

both : (a b : Bool) → (a && b) ≡ true → (a ≡ true) × (b ≡ true)
both true b e = (refl, e)
both false b e = absurd (false≢true e)

module _ {A : Type 0} (eq : A → A → Bool) where
  pointwise_equal : ((a b : A) → eq a b ≡ true → a ≡ b) → (xs ys : List A) → pointwise eq xs ys ≡ true → xs ≡ ys
  pointwise_equal sound [] [] e = refl
  pointwise_equal sound [] (y ∷ ys) e = absurd (false≢true e)
  pointwise_equal sound (x ∷ xs) [] e = absurd (false≢true e)
  pointwise_equal sound (x ∷ xs) (y ∷ ys) e = let parts = both (eq x y) (pointwise eq xs ys) e in λ i. sound x y parts.0 i ∷ pointwise_equal sound xs ys parts.1 i

  pointwise_itself : ((a : A) → eq a a ≡ true) → (xs : List A) → pointwise eq xs xs ≡ true
  pointwise_itself itself [] = refl
  pointwise_itself itself (x ∷ xs) = (λ i. itself x i && pointwise eq xs xs) ∙ pointwise_itself itself xs

-- texts that test as equal are equal
pub bytes_equal : (one other : List ℕ) → bytes_eq one other ≡ true → one ≡ other
bytes_equal one other e = pointwise_equal nat_eq eqb-true one other e

-- and the other way
pub bytes_itself : (one : List ℕ) → bytes_eq one one ≡ true
bytes_itself one = pointwise_itself nat_eq (λ n. eq-eqb n n refl) one

-- names that test as equal are equal
pub names_decided : (one other : List (List ℕ)) (b : Bool) → b ≡ pointwise bytes_eq one other → (b ≡ true) ↔ (one ≡ other)
names_decided one other b e = (
  λ is. pointwise_equal bytes_eq bytes_equal one other (sym e ∙ is),
  λ is. e ∙ ap (pointwise bytes_eq one) (sym is) ∙ pointwise_itself bytes_eq bytes_itself one,
)

-- what a test says of two spellings
pub spelled_alike : (x z : List ℕ) → false ≡ not (bytes_eq x z) → x ≡ z
spelled_alike x z e = bytes_equal x z (turned (bytes_eq x z) e)
  where
    turned : (b : Bool) → false ≡ not b → b ≡ true
    turned true h = refl
    turned false h = absurd (false≢true h)

pub spelled_apart : (x z : List ℕ) → true ≡ not (bytes_eq x z) → x ≡ z → ⊥
spelled_apart x z e is = turned (bytes_eq x z) e (ap (bytes_eq x) (sym is) ∙ bytes_itself x)
  where
    turned : (b : Bool) → true ≡ not b → b ≡ true → ⊥
    turned true h k = false≢true (sym h)
    turned false h k = false≢true k

-- what a test says of two truth values
pub apart : (x z : Bool) → not (beq x z) ≡ true → x ≡ z → ⊥
apart x z e is = false≢true (itself z ∙ ap (λ y. not (beq y z)) (sym is) ∙ e)
  where
    itself : (b : Bool) → false ≡ not (beq b b)
    itself true = refl
    itself false = refl
