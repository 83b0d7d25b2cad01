-- Places in lists.
use Rattle.std.proofs.Common.{◌≡◌, suc, ◌+◌, Bool, true, false, cond, not, nat_lt, None, Some, List, [], ◌∷◌, length, refl, ap, ◌∙◌, arith}
use Rattle.std.specs.List.{position, position_or_len}
use Rattle.std.proofs.lemmas.Bool.{ltb-false}
use Rattle.dm_search.proofs.SearchLemmas.{position-le}

-- where the first element passes, its place is 0; else it is one more than behind it
pub position-here : {A : Type 0} (p : A → Bool) (x : A) (xs : List A) → p x ≡ true → position_or_len p (x ∷ xs) ≡ 0
position-here p x xs h = ap (λ b. cond (not b) (1 + position_or_len p xs) 0) h

pub position-later : {A : Type 0} (p : A → Bool) (x : A) (xs : List A) → p x ≡ false → position_or_len p (x ∷ xs) ≡ suc (position_or_len p xs)
position-later p x xs h = let more : 1 + position_or_len p xs ≡ suc (position_or_len p xs) = omega arith in ap (λ b. cond (not b) (1 + position_or_len p xs) 0) h ∙ more

-- where none passes, the place is the length
pub position-none : {A : Type 0} (p : A → Bool) (xs : List A) → None ≡ position p xs → position_or_len p xs ≡ length xs
position-none p xs none = by (nat_lt (position_or_len p xs) (length xs)) refl none
  where
    by : (b : Bool) → nat_lt (position_or_len p xs) (length xs) ≡ b → None ≡ cond b (Some (position_or_len p xs)) None → position_or_len p xs ≡ length xs
    by true h e = absurd (cc)
    by false h e = let far = ltb-false (position_or_len p xs) (length xs) h in let near = position-le p xs in omega (arith, far, near)
