-- Loops over lists: the next item, and the rest.
use Rattle.std.proofs.Common.{◌≡◌, ℕ, suc, ◌+◌, ◌<◌, ◌≤◌, List, [], ◌∷◌, length, get_or, drop, drop-cons, drop_of_length-le, add-one, ap, sym}

pub cut : {A : Type 0} (xs : List A) (i : ℕ) (x : A) → i < length xs → x ≡ get_or xs i x → drop i xs ≡ x ∷ drop (i + 1) xs
cut xs i x inside is = rw (add-one, drop-cons xs i x inside) (ap (λ it. it ∷ drop (suc i) xs) (sym is))

-- no item is left
pub past : {A : Type 0} (xs : List A) (i : ℕ) → length xs ≤ i → drop i xs ≡ []
past xs i h = drop_of_length-le xs h
