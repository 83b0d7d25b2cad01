-- A list at the first element that passes a test.
use Rattle.std.proofs.Common.{◌≡◌, ℕ, suc, ◌+◌, ◌-◌, ◌<◌, ◌≤◌, ◌⊎◌, Bool, true, false, cond, not, ◌||◌, List, [], ◌∷◌, length, get_or, take, drop, Option, None, Some, refl, sym, ap, ◌∙◌, inl, inr, nat_lt, arith, length-drop}
use Rattle.std.specs.List.{list_any, find, position, position_or_len, before_first}
use Rattle.std.proofs.lemmas.Bool.{lt-ltb, le-ltb}
use Rattle.std.proofs.lemmas.List.{drop-take, take_all}

module _ {X : Type 0} (p : X → Bool) where
  -- none passes, or one does and the first stands there
  abbrev Parted : List X → ℕ → Bool → Option X → Type 0
  Parted xs n any first = ((length xs ≤ n) × (any ≡ false)) ⊎ ((n < length xs) × (any ≡ true) × ((d : X) → first ≡ Some (get_or xs n d)))

  more : (x : X) (xs : List X) (b : Bool) (n : ℕ) (any : Bool) (first : Option X) → Parted xs n any first
      → Parted (x ∷ xs) (cond (not b) (1 + n) 0) (b || any) (cond b (Some x) first)
  more x xs true n any first parted = inr (omega arith, refl, λ d. refl)
  more x xs false n any first (inl (long, none)) = inl (omega arith, none)
  more x xs false n any first (inr (short, some, at)) = inr (omega arith, some, λ d. at d ∙ ap (λ m. Some (get_or (x ∷ xs) m d)) next)
    where
      next : suc n ≡ 1 + n
      next = omega arith

  parted : (xs : List X) → Parted xs (position_or_len p xs) (list_any p xs) (find p xs)
  parted [] = inl (omega arith, refl)
  parted (x ∷ xs) = more x xs (p x) _ _ _ (parted xs)

  -- where none passes
  pub none_passes : (xs : List X) → position p xs ≡ None → list_any p xs ≡ false
  none_passes xs none = elim (parted xs) [
    | inl out ↦ out.1
    | inr at ↦ absurd (found (lt-ltb _ _ at.0))
  ]
    where
      found : nat_lt (position_or_len p xs) (length xs) ≡ true → ⊥
      found is = let chosen : Some (position_or_len p xs) ≡ None = ap (λ b. cond b (Some (position_or_len p xs)) None) (sym is) ∙ none in cc

  -- where the first that passes stands
  pub first_passes : (xs : List X) (i : ℕ) → position p xs ≡ Some i → (i < length xs) × (position_or_len p xs ≡ i) × (list_any p xs ≡ true) × ((d : X) → find p xs ≡ Some (get_or xs i d))
  first_passes xs i some = elim (parted xs) [
    | inl out ↦ absurd (lacking (le-ltb _ _ out.0))
    | inr at ↦ there at.0 at.1 at.2 (same (lt-ltb _ _ at.0))
  ]
    where
      lacking : nat_lt (position_or_len p xs) (length xs) ≡ false → ⊥
      lacking is = let chosen : None ≡ Some i = ap (λ b. cond b (Some (position_or_len p xs)) None) (sym is) ∙ some in cc

      same : nat_lt (position_or_len p xs) (length xs) ≡ true → position_or_len p xs ≡ i
      same is = let chosen : Some (position_or_len p xs) ≡ Some i = ap (λ b. cond b (Some (position_or_len p xs)) None) (sym is) ∙ some in cc

      there : position_or_len p xs < length xs → list_any p xs ≡ true → ((d : X) → find p xs ≡ Some (get_or xs (position_or_len p xs) d)) → position_or_len p xs ≡ i
          → (i < length xs) × (position_or_len p xs ≡ i) × (list_any p xs ≡ true) × ((d : X) → find p xs ≡ Some (get_or xs i d))
      there short any at e = (omega arith, e, any, λ d. at d ∙ ap (λ n. Some (get_or xs n d)) e)

  -- the part before it, without the first element
  pub before_it : (xs : List X) (i : ℕ) → position_or_len p xs ≡ i → 0 < i → take (i - 1) (drop 1 xs) ≡ drop 1 (before_first p xs)
  before_it xs i e some =
      let whole : 1 + (i - 1) ≡ i = omega arith in
      sym (drop-take 1 (i - 1) xs) ∙ ap (λ n. drop 1 (take n xs)) (whole ∙ sym e)

-- what is left behind a position
pub rest_behind : {X : Type 0} (xs : List X) (n : ℕ) → take (length xs - n) (drop n xs) ≡ drop n xs
rest_behind xs n = take_all (length xs - n) (drop n xs) (omega (arith, length-drop n xs))
