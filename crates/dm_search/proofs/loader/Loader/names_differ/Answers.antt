-- A name stands nowhere before its place.
use Rattle.std.proofs.Common.{◌≡◌, ℕ, ◌<◌, [], List, Bool, true, false, length, get_or, refl, sym, ap, ◌∙◌, subst, arith, bytes_eq, true≢false}
use Rattle.std.specs.List.{position_or_len}
use Rattle.std.proofs.lemmas.List.Sums.{position_or_len_is}
use Rattle.std.proofs.lemmas.Map.Keys.{apart_from_distinct}
use Rattle.std.proofs.lemmas.Slice.Eq.{bytes_eq-Decides}
use Rattle.dm_search.proofs.loader.Loader.names_differ.Goals as goal

apart-too : (a b : List ℕ) → bytes_eq a b ≡ false → bytes_eq b a ≡ false
apart-too a b apart = by (bytes_eq b a) refl
  where
    by : (t : Bool) → bytes_eq b a ≡ t → t ≡ false
    by false e = refl
    by true e = absurd (true≢false (sym ((bytes_eq-Decides a b).1 (sym ((bytes_eq-Decides b a).0 e))) ∙ apart))

own-place : (names : List (List ℕ)) → ((i j : ℕ) → i < j → j < length names → bytes_eq (get_or names i []) (get_or names j []) ≡ false) → (file : ℕ) → file < length names
    → position_or_len (bytes_eq (get_or names file [])) names ≡ file
own-place names apart file inside =
    position_or_len_is (bytes_eq (get_or names file [])) names file [] (omega (arith, inside)) (λ k before. apart-too (get_or names k []) (get_or names file []) (apart k file before inside))
    (λ there. (bytes_eq-Decides (get_or names file []) (get_or names file [])).1 refl)

pub returns : goal.returns
returns c = λ file inside.
    let keys = c.self.inside.numbers.keys in
    let same : keys ≡ c.args.self.now.names = ap (λ loaded. loaded.names) (c.self.view_is) in
    subst (λ names. position_or_len (bytes_eq (get_or names file [])) names ≡ file) same
    (own-place keys (λ i j before there. apart_from_distinct bytes_eq keys i j [] c.as_slice-names.ensures.unique before there) file
    (subst (λ (names : List (List ℕ)). file < length names) (sym same) inside))
