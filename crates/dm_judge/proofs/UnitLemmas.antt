-- Lists of what is looked up of units, place by place.
use Rattle.std.proofs.Common.{◌≡◌, ℕ, zero, suc, ◌<◌, List, [], ◌∷◌, length, map, get_or, refl, ap, arith}
use Rattle.std.specs.Prelude.{All}
use Rattle.std.proofs.lemmas.List.Elements.{All-head, All-tail}

-- what all mapped items have, the item at a place has when it is mapped
pub mapped-at : {A B : Type 0} (P : B → Type 0) (f : A → B) (xs : List A) (i : ℕ) (d : A) → i < length xs → All P (map f xs) → P (f (get_or xs i d))
mapped-at P f [] i d inside all = absurd (omega (arith, inside))
mapped-at P f (x ∷ xs) zero d inside all = All-head P (f x) (map f xs) all
mapped-at P f (x ∷ xs) (suc i) d inside all = mapped-at P f xs i d (omega (arith, inside)) (All-tail P (f x) (map f xs) all)

pub got-mapped : {A B : Type 0} (f : A → B) (xs : List A) (i : ℕ) (d : A) (e : B) → i < length xs → f (get_or xs i d) ≡ get_or (map f xs) i e
got-mapped f [] i d e inside = absurd (omega (arith, inside))
got-mapped f (x ∷ xs) zero d e inside = refl
got-mapped f (x ∷ xs) (suc i) d e inside = got-mapped f xs i d e (omega (arith, inside))

pub mapped-count : {A B : Type 0} (f : A → B) (xs : List A) → length (map f xs) ≡ length xs
mapped-count f [] = refl
mapped-count f (x ∷ xs) = ap suc (mapped-count f xs)
