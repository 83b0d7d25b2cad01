-- Positions of names, by which they are looked up.
use Rattle.std.proofs.Common.{◌≡◌, ℕ, ◌+◌, Bool, true, false, cond, List, [], ◌∷◌, ◌++◌, length, Option, Some, None, refl, sym, ap, ◌∙◌, arith, is_some}
use Rattle.std.specs.Prelude.{bytes_eq}
use Rattle.std.specs.List.{position_from}
use Rattle.std.specs.Ordering.{nat_cmp}
use Rattle.std.specs.Cmp.Lexicographic.{slice_cmp, texts_ties}
use Rattle.std.specs.FinMap as map
use Rattle.std.proofs.lemmas.Cmp.{nat_list_cmp_total}
use Rattle.dm_name_map.specs.Numbers.{Numbers}
use Rattle.dm_macro.specs.Roles.{HavePositions}
use Rattle.dm_macro.proofs.BodyLemmas.{position_from-append, position_from-front}
use Rattle.dm_macro.proofs.SameLemmas.{bytes_equal}

-- where nothing is found
pub not_some : {A : Type 0} (found : Option A) → is_some found ≡ false → found ≡ None
not_some None is = refl
not_some (Some a) is = cc

pub positions-nothing : (positions : Numbers) → positions ≡ map.empty → HavePositions [] positions
positions-nothing positions empty = λ name. ap (λ (m : Numbers). map.get m name) empty ∙ map.get-empty {X = ℕ} (slice_cmp nat_cmp) name

-- where a name has no position yet, others are found as before
found-before : (names : List (List ℕ)) (name q : List ℕ) (found : Option ℕ) → position_from (bytes_eq q) 0 names ≡ found → bytes_eq q name ≡ false → found ≡ position_from (bytes_eq q) 0 (names ++ name ∷ [])
found-before names name q (Some place) is other = sym (position_from-front (bytes_eq q) 0 place names (name ∷ []) is)
found-before names name q None is other =
    sym (position_from-append (bytes_eq q) 0 names (name ∷ []) is ∙ ap (λ b. cond b (Some (0 + length names)) None) other)

-- a name that is there has its position
found-there : (names : List (List ℕ)) (name : List ℕ) (found : Option ℕ) → position_from (bytes_eq name) 0 names ≡ found → is_some found ≡ true → found ≡ position_from (bytes_eq name) 0 (names ++ name ∷ [])
found-there names name (Some place) is some = sym (position_from-front (bytes_eq name) 0 place names (name ∷ []) is)
found-there names name None is some = cc

-- a name that was there before
pub positions-old : (names : List (List ℕ)) (name : List ℕ) (positions : Numbers) → HavePositions names positions → is_some (map.get positions name) ≡ true → HavePositions (names ++ name ∷ []) positions
positions-old names name positions have some = λ q. by_test q (bytes_eq q name) refl
  where
    by_test : (q : List ℕ) (b : Bool) → bytes_eq q name ≡ b → map.get positions q ≡ position_from (bytes_eq q) 0 (names ++ name ∷ [])
    by_test q true is =
        let same : q ≡ name = bytes_equal q name is in
        have q ∙ found-there names q (position_from (bytes_eq q) 0 names) refl (ap is_some (sym (have q) ∙ ap (map.get positions) same) ∙ some) ∙ ap (λ n. position_from (bytes_eq q) 0 (names ++ n ∷ [])) same
    by_test q false is = have q ∙ found-before names name q (position_from (bytes_eq q) 0 names) refl is

-- a new name
pub positions-new : (names : List (List ℕ)) (name : List ℕ) (positions : Numbers) → HavePositions names positions → map.get positions name ≡ None → HavePositions (names ++ name ∷ []) (map.insert positions name (length names))
positions-new names name positions have none = λ q.
    map.get-insert nat_list_cmp_total positions name (length names) q ∙ ap (λ b. cond b (Some (length names)) (map.get positions q)) (sym (texts_ties q name)) ∙ by_test q (bytes_eq q name) refl
  where
    by_test : (q : List ℕ) (b : Bool) → bytes_eq q name ≡ b → cond (bytes_eq q name) (Some (length names)) (map.get positions q) ≡ position_from (bytes_eq q) 0 (names ++ name ∷ [])
    by_test q true is =
        let same : q ≡ name = bytes_equal q name is in
        let counted : 0 + length names ≡ length names = omega arith in
        ap (λ b. cond b (Some (length names)) (map.get positions q)) is
        ∙ sym (position_from-append (bytes_eq q) 0 names (name ∷ []) (sym (have q) ∙ ap (map.get positions) same ∙ none)
        ∙ ap (λ b. cond b (Some (0 + length names)) None) is
        ∙ ap (λ (n : ℕ). Some n) counted)
    by_test q false is =
        ap (λ b. cond b (Some (length names)) (map.get positions q)) is ∙ have q ∙ found-before names name q (position_from (bytes_eq q) 0 names) refl is
