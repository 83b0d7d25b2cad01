-- Lines by the offsets of newlines.
use Rattle.std.proofs.Common.{◌≡◌, ◌<◌, ◌≤◌, ◌⊎◌, inl, inr, ℕ, zero, suc, ◌+◌, Bool, true, false, ◌==◌, ltb, List, [], ◌∷◌, length, take, get_or, Option, None, refl, sym, ap, ◌∙◌, arith, cond}
use Rattle.std.specs.Prelude.{unwrap_or}
use Rattle.std.specs.List.{count_by}
use Rattle.std.specs.List.Sorted.{IsPartitionedBy, IsPartitionPoint}
use Rattle.std.proofs.lemmas.Bool.{cases_lt, ltb-true, lt-ltb, le-ltb}
use Rattle.std.proofs.lemmas.List.{get_or_past}
use Rattle.std.proofs.lemmas.List.FromFn.{length-map-range_with_len, get_or-map-range_with_len}
use Rattle.std.proofs.lemmas.List.Sums.{sum_by-cons}
use Rattle.dm_token.specs.Bytes.{newline}
use Rattle.dm_token.specs.Places.{newlines}
use Rattle.dm_search.specs.Loaded.{Loaded}
use Rattle.dm_subjects.specs.Newlines.{newlines_from, newlines_in, newlines_of}
use Rattle.dm_subjects.proofs.LineLemmas.{newlines-cons}

-- ---- offsets ascend

module _ (at : ℕ) (rest : List ℕ) (d : ℕ) (above-rest : (k : ℕ) → k < length rest → at + 1 ≤ get_or rest k d) where
  above-first : (b : Bool) (k : ℕ) → k < length (cond b (at ∷ rest) rest) → at ≤ get_or (cond b (at ∷ rest) rest) k d
  above-first true zero inside = omega arith
  above-first true (suc k) inside =
      let less : suc k < suc (length rest) = inside in let far = above-rest k (omega (arith, less)) in omega (arith, far)
  above-first false k inside = let far = above-rest k inside in omega (arith, far)

  rises-first : ((i j : ℕ) → i ≤ j → j < length rest → get_or rest i d ≤ get_or rest j d)
      → (b : Bool) (i j : ℕ) → i ≤ j → j < length (cond b (at ∷ rest) rest) → get_or (cond b (at ∷ rest) rest) i d ≤ get_or (cond b (at ∷ rest) rest) j d
  rises-first rest-rises false i j le inside = rest-rises i j le inside
  rises-first rest-rises true zero zero le inside = omega arith
  rises-first rest-rises true zero (suc j) le inside =
      let less : suc j < suc (length rest) = inside in let far = above-rest j (omega (arith, less)) in omega (arith, far)
  rises-first rest-rises true (suc i) zero le inside = absurd (omega (arith, le))
  rises-first rest-rises true (suc i) (suc j) le inside =
      let less : suc j < suc (length rest) = inside in rest-rises i j (omega (arith, le)) (omega (arith, less))

above : (at : ℕ) (bytes : List ℕ) (d k : ℕ) → k < length (newlines_from at bytes) → at ≤ get_or (newlines_from at bytes) k d
above at [] d k inside = let less : k < 0 = inside in absurd (omega (arith, less))
above at (byte ∷ bytes) d k inside = above-first at (newlines_from (at + 1) bytes) d (above (at + 1) bytes d) (byte == newline) k inside

rises : (at : ℕ) (bytes : List ℕ) (d i j : ℕ) → i ≤ j → j < length (newlines_from at bytes) → get_or (newlines_from at bytes) i d ≤ get_or (newlines_from at bytes) j d
rises at [] d i j le inside = let less : j < 0 = inside in absurd (omega (arith, less))
rises at (byte ∷ bytes) d i j le inside =
    rises-first at (newlines_from (at + 1) bytes) d (above (at + 1) bytes d) (rises (at + 1) bytes d) (byte == newline) i j le inside

pub parted : (bytes : List ℕ) (offset : ℕ) → IsPartitionedBy (λ newline. ltb newline offset) (newlines_from 0 bytes)
parted bytes offset i j d le inside below =
    let less = ltb-true (get_or (newlines_from 0 bytes) j d) offset below in
    let up = rises 0 bytes d i j le inside in
    lt-ltb (get_or (newlines_from 0 bytes) i d) offset (omega (arith, less, up))

-- ---- how many are before an offset

count_by-cons : {X : Type 0} (p : X → Bool) (x : X) (xs : List X) → count_by p (x ∷ xs) ≡ cond (p x) 1 0 + count_by p xs
count_by-cons p x xs = sum_by-cons (λ y. cond (p y) 1 0) x xs

pub point-count : (p : ℕ → Bool) (xs : List ℕ) (i : ℕ) → i ≤ length xs → IsPartitionPoint (λ y. p y ≡ true) (λ y. p y ≡ false) xs i → count_by p xs ≡ i
point-count p [] i within point = omega (arith, within)
point-count p (x ∷ xs) zero within point =
    let first : p x ≡ false = point.1 0 x (omega arith) (omega arith) in
    let rest = point-count p xs zero (omega arith) (λ k d low high. absurd (omega (arith, high)), λ k d low high. point.1 (suc k) d (omega arith) (omega (arith, high))) in
    count_by-cons p x xs ∙ ap (λ b. cond b 1 0 + count_by p xs) first ∙ omega (arith, rest)
point-count p (x ∷ xs) (suc i) within point =
    let first : p x ≡ true = point.0 0 x (omega arith) (omega arith) in
    let rest = point-count p xs i (omega (arith, within))
    (λ k d low high. point.0 (suc k) d (omega arith) (omega (arith, high)), λ k d low high. point.1 (suc k) d (omega (arith, low)) (omega (arith, high))) in
    count_by-cons p x xs ∙ ap (λ b. cond b 1 0 + count_by p xs) first ∙ omega (arith, rest)

abbrev before : ℕ → ℕ → Bool
before offset newline = ltb newline offset

none-first : (offset at : ℕ) (rest : List ℕ) → offset ≤ at → count_by (before offset) rest ≡ 0 → (b : Bool) → count_by (before offset) (cond b (at ∷ rest) rest) ≡ 0
none-first offset at rest past none true =
    count_by-cons (before offset) at rest ∙ ap (λ b. cond b 1 0 + count_by (before offset) rest) (le-ltb at offset past) ∙ omega (arith, none)
none-first offset at rest past none false = none

none-before : (offset at : ℕ) (bytes : List ℕ) → offset ≤ at → count_by (before offset) (newlines_from at bytes) ≡ 0
none-before offset at [] past = refl
none-before offset at (byte ∷ bytes) past =
    none-first offset at (newlines_from (at + 1) bytes) past (none-before offset (at + 1) bytes (omega (arith, past))) (byte == newline)

one-first : (offset at n : ℕ) (rest : List ℕ) → at < offset → count_by (before offset) rest ≡ n → (b : Bool) → count_by (before offset) (cond b (at ∷ rest) rest) ≡ cond b 1 0 + n
one-first offset at n rest less are true =
    count_by-cons (before offset) at rest ∙ ap (λ b. cond b 1 0 + count_by (before offset) rest) (lt-ltb at offset less) ∙ ap (λ m. 1 + m) are
one-first offset at n rest less are false = omega (arith, are)

pub count-before : (offset n at : ℕ) (bytes : List ℕ) → at + n ≡ offset → count_by (before offset) (newlines_from at bytes) ≡ newlines (take n bytes)
count-before offset zero at bytes is = none-before offset at bytes (omega (arith, is))
count-before offset (suc n) at [] is = refl
count-before offset (suc n) at (byte ∷ bytes) is =
    one-first offset at (newlines (take n bytes)) (newlines_from (at + 1) bytes) (omega (arith, is)) (count-before offset n (at + 1) bytes (omega (arith, is))) (byte == newline)
    ∙ sym (newlines-cons byte (take n bytes))

-- ---- files by number

pub newlines-at : (loaded : Loaded) (file : ℕ) → length loaded.held ≡ length loaded.names → get_or (newlines_of loaded) file [] ≡ newlines_in loaded file
newlines-at loaded file slots = by (cases_lt file (length loaded.names))
  where
    count : length (newlines_of loaded) ≡ length loaded.names
    count = length-map-range_with_len (newlines_in loaded) 0 (length loaded.names)

    by : (file < length loaded.names) ⊎ (length loaded.names ≤ file) → get_or (newlines_of loaded) file [] ≡ newlines_in loaded file
    by (inl less) = get_or-map-range_with_len (newlines_in loaded) 0 (length loaded.names) file file [] less (omega arith)
    by (inr past) =
        get_or_past (newlines_of loaded) file [] (omega (arith, past, count))
        ∙ sym (ap (λ (held : Option (List ℕ)). newlines_from 0 (unwrap_or held [])) (get_or_past loaded.held file None (omega (arith, past, slots))))
