-- Lists that loops make of others, an item at a time.
use Rattle.std.proofs.Common.{◌≡◌, suc, List, [], ◌∷◌, length, map, refl, ap, ◌∙◌}

-- functions that do the same to each item
pub map-same : {A B : Type 0} (f g : A → B) (xs : List A) → ((x : A) → f x ≡ g x) → map f xs ≡ map g xs
map-same f g [] are = refl
map-same f g (x ∷ xs) are = ap (λ y. y ∷ map f xs) (are x) ∙ ap (λ ys. g x ∷ ys) (map-same f g xs are)

-- a list that f makes of another is as long
pub length_map : {A B : Type 0} (f : A → B) (xs : List A) → length (map f xs) ≡ length xs
length_map f [] = refl
length_map f (x ∷ xs) = ap suc (length_map f xs)
