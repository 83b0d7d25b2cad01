-- The items of a condition, one after another.
use Rattle.std.proofs.Common.{◌≡◌, ℕ, zero, suc, List, [], ◌∷◌, ◌++◌, length, drop, map, Option, None, Some, option_to_list, refl, sym, ap, ◌∙◌, append_assoc, arith}
use Rattle.std.specs.List.{filter_map, cons_option}
use Rattle.dm_token.specs.declared.token.PpToken.{PpToken}
use Rattle.dm_token.specs.declared.unit.Use.{Use}
use Rattle.dm_macro.specs.Tables.{Table}
use Rattle.dm_unit.specs.Conditions.{items, first_item, token_for, use_for}

-- the items behind some tokens are those of what is left
items-skip : (n : ℕ) (ts : List PpToken) → items n ts ≡ items 0 (drop n ts)
unfolding items
items-skip zero ts = refl
items-skip (suc n) [] = refl
items-skip (suc n) (t ∷ ts) = items-skip n ts

pub items-first : (t : PpToken) (ts : List PpToken) → items 0 (t ∷ ts) ≡ (first_item t ts).item ∷ items 0 (drop (first_item t ts).more ts)
unfolding items
items-first t ts = ap (λ rest. (first_item t ts).item ∷ rest) (items-skip (first_item t ts).more ts)

-- the tokens so far, with one more
pub tokens-more : (table : Table) (t : PpToken) (ts tokens more : List PpToken) → more ≡ tokens ++ token_for table (first_item t ts).item ∷ []
    → more ++ map (token_for table) (items 0 (drop (first_item t ts).more ts)) ≡ tokens ++ map (token_for table) (items 0 (t ∷ ts))
tokens-more table t ts tokens more is =
    ap (λ all. all ++ map (token_for table) (items 0 (drop (first_item t ts).more ts))) is
    ∙ append_assoc tokens (token_for table (first_item t ts).item ∷ []) (map (token_for table) (items 0 (drop (first_item t ts).more ts)))
    ∙ ap (λ rest. tokens ++ map (token_for table) rest) (sym (items-first t ts))

option-first : {A : Type 0} (o : Option A) (xs : List A) → option_to_list o ++ xs ≡ cons_option o xs
option-first None xs = refl
option-first (Some x) xs = refl

-- the uses so far, with those of one more
pub uses-more : (table : Table) (t : PpToken) (ts : List PpToken) (uses more : List Use) → more ≡ uses ++ option_to_list (use_for table (first_item t ts).item)
    → more ++ filter_map (use_for table) (items 0 (drop (first_item t ts).more ts)) ≡ uses ++ filter_map (use_for table) (items 0 (t ∷ ts))
uses-more table t ts uses more is =
    ap (λ all. all ++ filter_map (use_for table) (items 0 (drop (first_item t ts).more ts))) is
    ∙ append_assoc uses (option_to_list (use_for table (first_item t ts).item)) (filter_map (use_for table) (items 0 (drop (first_item t ts).more ts)))
    ∙ ap (λ rest. uses ++ rest) (option-first (use_for table (first_item t ts).item) (filter_map (use_for table) (items 0 (drop (first_item t ts).more ts))))
    ∙ ap (λ rest. uses ++ filter_map (use_for table) rest) (sym (items-first t ts))

pub items-empty : (ts : List PpToken) → length ts ≡ 0 → items 0 ts ≡ []
unfolding items
items-empty [] none = refl
items-empty (t ∷ ts) none = absurd (omega (arith, none))
