-- Names that differ, and sets of names.
use Rattle.std.proofs.Common.{◌≡◌, ℕ, ◌+◌, ◌<◌, Bool, true, false, cond, ◌||◌, List, [], ◌∷◌, ◌++◌, length, get_or, take, refl, sym, ap, ◌∙◌, subst, bytes_eq}
use Rattle.std.specs.List.{list_any, IsDistinct}
use Rattle.std.proofs.lemmas.Bool.{false≢true}
use Rattle.std.proofs.lemmas.Cmp.{nat_list_eq_equiv}
use Rattle.std.proofs.lemmas.List.{get_or-take, take_more}
use Rattle.std.proofs.lemmas.List.Folds.{list_any_none, list_any_more}
use Rattle.std.proofs.Common.{arith, length-take}
use Rattle.std.proofs.lemmas.List.{get_or_default}
use Rattle.std.proofs.lemmas.Map.Keys.{IsDistinct-push, apart_from_distinct}
use Rattle.dm_macro.specs.NameSets.{NameSet, has_name, HasNamesOf}

-- a name that stands before itself isn't alone
pub stands_again : (names : List (List ℕ)) (i : ℕ) (name : List ℕ) → i < length names → name ≡ get_or names i name
    → list_any (bytes_eq name) (take i names) ≡ true → IsDistinct bytes_eq names → ⊥
stands_again names i name lt is again apart = false≢true (sym (list_any_none (bytes_eq name) (take i names) differ) ∙ again)
  where
    differ : (k : ℕ) (d : List ℕ) → k < length (take i names) → bytes_eq name (get_or (take i names) k d) ≡ false
    differ k d within =
        let below : k < i = omega (arith, length-take i names) in
        ap (bytes_eq name) (get_or-take i names k d below)
        ∙ nat_list_eq_equiv.symm name (get_or names k d)
        ∙ ap (bytes_eq (get_or names k d)) (is ∙ get_or_default names i name d lt)
        ∙ apart_from_distinct bytes_eq names k i d apart below lt

-- one more name that differs from those before it
pub apart_more : (names : List (List ℕ)) (i : ℕ) (name : List ℕ) → i < length names → name ≡ get_or names i name
    → list_any (bytes_eq name) (take i names) ≡ false → IsDistinct bytes_eq (take i names) → IsDistinct bytes_eq (take (i + 1) names)
apart_more names i name lt is new apart =
    subst (IsDistinct bytes_eq) (sym (take_more names i name lt ∙ ap (λ x. take i names ++ x ∷ []) (sym is))) (IsDistinct-push nat_list_eq_equiv (take i names) name apart new)

flipped : (b : Bool) (x : Bool) → cond b true x ≡ (x || b)
flipped true true = refl
flipped true false = refl
flipped false true = refl
flipped false false = refl

-- the set with one more name
pub has_more : (names : List (List ℕ)) (i : ℕ) (name : List ℕ) (old new : NameSet) → i < length names → name ≡ get_or names i name
    → HasNamesOf (take i names) old → ((q : List ℕ) → has_name new q ≡ cond (bytes_eq name q) true (has_name old q)) → HasNamesOf (take (i + 1) names) new
has_more names i name old new lt is same updates q =
    updates q
    ∙ flipped (bytes_eq name q) (has_name old q)
    ∙ ap (λ b. b || bytes_eq name q) (same q)
    ∙ ap (λ b. list_any (bytes_eq q) (take i names) || b) (nat_list_eq_equiv.symm name q ∙ ap (bytes_eq q) is)
    ∙ sym (list_any_more (bytes_eq q) names i name lt)
