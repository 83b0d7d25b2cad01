-- Comparing parameters one by one.
use Rattle.std.proofs.Common.{◌≡◌, ℕ, suc, ◌<◌, Bool, true, false, ◌&&◌, List, [], ◌∷◌, length, map, drop, get_or, drop-cons, refl, sym, ap, ◌∙◌}
use Rattle.dm_type.specs.CTypes.{CType, CTypes, void, integer, pointer, array, struct, function, const, all_of, more_types, bare}
use Rattle.dm_type.specs.Alike.{are_compatible, match_as_parameters}
use Rattle.dm_type.specs.Comparing.{match_lists}

-- parameters are compared without their const
match-more : (type other : CType) (types others : CTypes)
    → match_as_parameters (more_types type types) (more_types other others) ≡ (are_compatible (bare type) (bare other) && match_as_parameters types others)
match-more void other types others = refl
match-more (integer kind) other types others = refl
match-more (pointer type) other types others = refl
match-more (array type count) other types others = refl
match-more (struct number) other types others = refl
match-more (function result parameters) other types others = refl
match-more (const type) other types others = refl

pub match-all : (types others : List CType) → match_as_parameters (all_of types) (all_of others) ≡ match_lists types others
match-all [] [] = refl
match-all [] (other ∷ others) = refl
match-all (void ∷ types) [] = refl
match-all (type ∷ types) [] = refl
match-all (type ∷ types) (other ∷ others) =
    match-more type other (all_of types) (all_of others) ∙ ap (λ b. are_compatible (bare type) (bare other) && b) (match-all types others)

pub and-never : (b : Bool) → (b && false) ≡ false
and-never true = refl
and-never false = refl

-- lists of different lengths don't match
pub match-lengths : {A : Type 0} (f : A → CType) (these those : List A) → (length these ≡ length those → ⊥) → match_lists (map f these) (map f those) ≡ false
match-lengths f [] [] differ = absurd (differ refl)
match-lengths f [] (b ∷ those) differ = refl
match-lengths f (a ∷ these) [] differ = refl
match-lengths f (a ∷ these) (b ∷ those) differ =
    ap (λ r. are_compatible (bare (f a)) (bare (f b)) && r) (match-lengths f these those (λ e. differ (ap suc e))) ∙ and-never (are_compatible (bare (f a)) (bare (f b)))

-- the next of both
pub match-next : {A : Type 0} (f : A → CType) (these those : List A) (k : ℕ) (a b : A) → k < length these → k < length those → a ≡ get_or these k a → b ≡ get_or those k b
    → match_lists (map f (drop k these)) (map f (drop k those)) ≡ (are_compatible (bare (f a)) (bare (f b)) && match_lists (map f (drop (suc k) these)) (map f (drop (suc k) those)))
match-next f these those k a b first second is_a is_b =
    let cut_a = drop-cons these k a first ∙ ap (λ x. x ∷ drop (suc k) these) (sym is_a) in
    let cut_b = drop-cons those k b second ∙ ap (λ x. x ∷ drop (suc k) those) (sym is_b) in
    ap (λ xs. match_lists (map f xs) (map f (drop k those))) cut_a ∙ ap (λ xs. match_lists (map f (a ∷ drop (suc k) these)) (map f xs)) cut_b
