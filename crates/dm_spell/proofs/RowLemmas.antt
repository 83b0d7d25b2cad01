-- Lemmas on the rows of a text: how many there are, where each begins and ends, and what the tests of a table tell.
use Rattle.std.proofs.Common.{Option, ◌≡◌, ◌⊎◌, inl, inr, ℕ, zero, suc, ◌+◌, ◌-◌, ◌<◌, ◌≤◌, true, not, leb, ltb, eqb, List, [], ◌∷◌, ◌&&◌, length, get_or, take, replicate, refl, ap, sym, ◌∙◌, arith, length-take, length-drop}
use Rattle.std.specs.Prelude.{MatchOption, slice_range}
use Rattle.std.proofs.lemmas.Bool.{and_parts, and_from, ltb-true, leb-true, le-leb, eqb-true, eq-eqb, not-true, both_ways, cases_order}
use Rattle.dm_spell.specs.Rows.{rows_of, row_at, rises, StandsAt, NoneBegins, is_first, none_begins, is_next}

-- there is a row for each end
pub length-rows_of : (from : ℕ) (text ends : List ℕ) → length (rows_of from text ends) ≡ length ends
length-rows_of from text [] = refl
length-rows_of from text (end ∷ ends) = ap suc (length-rows_of end text ends)

-- a row goes from the end before its own up to its own
pub rows_of-at : (from : ℕ) (text ends : List ℕ) (k : ℕ) → k < length ends →
    row_at (rows_of from text ends) k ≡ slice_range text (get_or (from ∷ ends) k 0) (get_or ends k 0)
rows_of-at from text [] k below = absurd (omega arith)
rows_of-at from text (end ∷ ends) zero below = refl
rows_of-at from text (end ∷ ends) (suc k) below = rows_of-at end text ends k (omega arith)

-- the total is not below the start
pub rises-from : (from : ℕ) (ends : List ℕ) (total : ℕ) → rises from ends total ≡ true → from ≤ total
rises-from from [] total up = let same = eqb-true from total up in omega arith
rises-from from (end ∷ ends) total up =
    let parts = and_parts (ltb from end) (rises end ends total) up in
    omega (arith, ltb-true from end parts.0, rises-from end ends total parts.1)

-- each end is above the one before it, and within the total
pub record IsEnd (from : ℕ) (ends : List ℕ) (total k : ℕ) : Type 0 where
  pub above : get_or (from ∷ ends) k 0 < get_or ends k 0
  pub within : get_or ends k 0 ≤ total

pub rises-at : (from : ℕ) (ends : List ℕ) (total k : ℕ) → rises from ends total ≡ true → k < length ends → IsEnd from ends total k
rises-at from [] total k up below = absurd (omega arith)
rises-at from (end ∷ ends) total zero up below =
    let parts = and_parts (ltb from end) (rises end ends total) up in
    record { above = ltb-true from end parts.0; within = rises-from end ends total parts.1 }
rises-at from (end ∷ ends) total (suc k) up below =
    let parts = and_parts (ltb from end) (rises end ends total) up in
    let rest = rises-at end ends total k parts.1 (omega arith) in
    record { above = rest.above; within = rest.within }

-- the best of the first n rows that stand at the front of the text, and its length, which is 0 where none does
pub record BestBelow (rows : List (List ℕ)) (text : List ℕ) (n : ℕ) (found : Option ℕ) (most : ℕ) : Type 0 where
  pub best : MatchOption found (most ≡ 0) (λ number. (number < length rows) × (most ≡ length (row_at rows number)) × StandsAt (row_at rows number) text 0)
  pub longest : (k : ℕ) → k < n → k < length rows → StandsAt (row_at rows k) text 0 → length (row_at rows k) ≤ most

-- the end before the one with a number above 0
pub get_or-before : (ends : List ℕ) (from number : ℕ) → (number ≡ 0 → ⊥) → get_or (from ∷ ends) number 0 ≡ get_or ends (number - 1) 0
get_or-before ends from zero above = absurd (above refl)
get_or-before ends from (suc number) above = ap (λ n. get_or ends n 0) (let e : number ≡ suc number - 1 = omega arith in e)

-- no row is empty
pub rows_of-filled : (from : ℕ) (text ends : List ℕ) (k : ℕ) → rises from ends (length text) ≡ true → k < length (rows_of from text ends) → 0 < length (row_at (rows_of from text ends) k)
rows_of-filled from text [] k up below = absurd (omega arith)
rows_of-filled from text (end ∷ ends) zero up below =
    let parts = and_parts (ltb from end) (rises end ends (length text)) up in
    omega (arith, ltb-true from end parts.0, rises-from end ends (length text) parts.1, length-take (end - from) (Rattle.std.proofs.Common.drop from text), length-drop from text)
rows_of-filled from text (end ∷ ends) (suc k) up below =
    let parts = and_parts (ltb from end) (rises end ends (length text)) up in
    rows_of-filled end text ends k parts.1 (omega arith)

-- no row stands before the number that the list has for its first byte
is_first-at : (number : ℕ) (firsts : List ℕ) (rows : List (List ℕ)) (k : ℕ) → is_first number firsts rows ≡ true → k < length rows →
    get_or firsts (get_or (row_at rows k) 0 0) 0 ≤ number + k
is_first-at number firsts [] k is below = absurd (omega arith)
is_first-at number firsts (spelling ∷ rows) zero is below =
    let parts = and_parts (leb (get_or firsts (get_or spelling 0 0) 0) number) (is_first (number + 1) firsts rows) is in
    omega (arith, leb-true _ _ parts.0)
is_first-at number firsts (spelling ∷ rows) (suc k) is below =
    let parts = and_parts (leb (get_or firsts (get_or spelling 0 0) 0) number) (is_first (number + 1) firsts rows) is in
    omega (arith, is_first-at (number + 1) firsts rows k parts.1 (omega arith))

pub none_before : (firsts : List ℕ) (rows : List (List ℕ)) (byte : ℕ) → is_first 0 firsts rows ≡ true → NoneBegins rows byte 0 (get_or firsts byte 0)
none_before firsts rows byte is = λ k from until inside same.
    omega (arith, is_first-at 0 firsts rows k is inside, ap (λ b. get_or firsts b 0) same)

-- a list of zeros has no number that is too great
pub is_first-zeros : (number count : ℕ) (rows : List (List ℕ)) → is_first number (replicate {A = ℕ} count 0) rows ≡ true
is_first-zeros number count [] = refl
is_first-zeros number count (spelling ∷ rows) =
    and_from _ _ (le-leb _ _ (omega (arith, zeros count (get_or spelling 0 0)))) (is_first-zeros (number + 1) count rows)
  where
    zeros : (count k : ℕ) → get_or (replicate {A = ℕ} count 0) k 0 ≡ 0
    zeros zero k = refl
    zeros (suc count) zero = refl
    zeros (suc count) (suc k) = zeros count k

-- none of the rows at the front begins with the byte
none_begins-at : (byte count : ℕ) (rows : List (List ℕ)) (k : ℕ) → none_begins byte count rows ≡ true → k < count → k < length rows → get_or (row_at rows k) 0 0 ≡ byte → ⊥
none_begins-at byte zero rows k is below inside same = absurd (omega arith)
none_begins-at byte (suc count) [] k is below inside same = absurd (omega arith)
none_begins-at byte (suc count) (spelling ∷ rows) zero is below inside same =
    let parts = and_parts (not (eqb (get_or spelling 0 0) byte)) (none_begins byte count rows) is in
    both_ways _ (not-true _ parts.0) (eq-eqb _ _ same)
none_begins-at byte (suc count) (spelling ∷ rows) (suc k) is below inside same =
    let parts = and_parts (not (eqb (get_or spelling 0 0) byte)) (none_begins byte count rows) is in
    none_begins-at byte count rows k parts.1 (omega arith) (omega arith) same

-- between a row and the one that the list has for it none begins as it does
pub record IsNext (rows : List (List ℕ)) (number k next : ℕ) : Type 0 where
  pub further : number + k < next
  pub none : (j : ℕ) → k < j → number + j < next → j < length rows → get_or (row_at rows j) 0 0 ≡ get_or (row_at rows k) 0 0 → ⊥

is_next-at : (number : ℕ) (nexts : List ℕ) (rows : List (List ℕ)) (k : ℕ) → is_next number nexts rows ≡ true → k < length nexts → k < length rows →
    IsNext rows number k (get_or nexts k 0)
is_next-at number [] rows k is within below = absurd (omega arith)
is_next-at number (next ∷ nexts) [] k is within below = absurd (omega arith)
is_next-at number (next ∷ nexts) (spelling ∷ rows) zero is within below =
    let front = and_parts (ltb number next && none_begins (get_or spelling 0 0) (next - (number + 1)) rows) (is_next (number + 1) nexts rows) is in
    let parts = and_parts (ltb number next) (none_begins (get_or spelling 0 0) (next - (number + 1)) rows) front.0 in
    record { further = omega (arith, ltb-true _ _ parts.0); none = behind parts.1 }
  where
    behind : none_begins (get_or spelling 0 0) (next - (number + 1)) rows ≡ true → (j : ℕ) → 0 < j → number + j < next → j < length (spelling ∷ rows) → get_or (row_at (spelling ∷ rows) j) 0 0 ≡ get_or spelling 0 0 → ⊥
    behind none zero above until inside same = absurd (omega arith)
    behind none (suc j) above until inside same = none_begins-at (get_or spelling 0 0) (next - (number + 1)) rows j none (omega arith) (omega arith) same
is_next-at number (next ∷ nexts) (spelling ∷ rows) (suc k) is within below =
    let front = and_parts (ltb number next && none_begins (get_or spelling 0 0) (next - (number + 1)) rows) (is_next (number + 1) nexts rows) is in
    let rest = is_next-at (number + 1) nexts rows k front.1 (omega arith) (omega arith) in
    record { further = omega (arith, rest.further); none = behind rest }
  where
    behind : IsNext rows (number + 1) k (get_or nexts k 0) → (j : ℕ) → suc k < j → number + j < get_or nexts k 0 → j < length (spelling ∷ rows) → get_or (row_at (spelling ∷ rows) j) 0 0 ≡ get_or (row_at rows k) 0 0 → ⊥
    behind rest zero above until inside same = absurd (omega arith)
    behind rest (suc j) above until inside same = rest.none j (omega arith) (omega arith) (omega arith) same

pub next_further : (nexts : List ℕ) (rows : List (List ℕ)) (k : ℕ) → is_next 0 nexts rows ≡ true → k < length nexts → k < length rows → k < get_or nexts k 0
next_further nexts rows k is within below = omega (arith, (is_next-at 0 nexts rows k is within below).further)

pub none_between : (nexts : List ℕ) (rows : List (List ℕ)) (k byte : ℕ) → is_next 0 nexts rows ≡ true → k < length nexts → k < length rows → get_or (row_at rows k) 0 0 ≡ byte →
    NoneBegins rows byte (k + 1) (get_or nexts k 0)
none_between nexts rows k byte is within below same = λ j from until inside same'.
    (is_next-at 0 nexts rows k is within below).none j (omega arith) (omega arith) inside (same' ∙ sym same)

-- a row that stands at the front of a text begins as the text does
stands-first : (spelling text : List ℕ) → StandsAt spelling text 0 → (length spelling ≡ 0) ⊎ (get_or spelling 0 0 ≡ get_or text 0 0)
stands-first [] text stands = inl refl
stands-first (b ∷ spelling) [] stands = absurd (let e = ap length stands in omega arith)
stands-first (b ∷ spelling) (a ∷ text) stands = inr (sym (ap (λ (t : List ℕ). get_or t 0 0) stands))

-- what is known of the rows up to the next one that begins as the text does
pub longest_before : (rows : List (List ℕ)) (text : List ℕ) (number next byte most : ℕ) → get_or text 0 0 ≡ byte →
    ((k : ℕ) → k < number → k < length rows → StandsAt (row_at rows k) text 0 → length (row_at rows k) ≤ most) →
    (StandsAt (row_at rows number) text 0 → length (row_at rows number) ≤ most) →
    NoneBegins rows byte (number + 1) next →
    (k : ℕ) → k < next → k < length rows → StandsAt (row_at rows k) text 0 → length (row_at rows k) ≤ most
longest_before rows text number next byte most first before this none k until inside stands =
    elim (cases_order k number) [
      | inl same ↦ rw same (this (rw same at stands))
      | inr (inl below) ↦ before k below inside stands
      | inr (inr above) ↦ elim (stands-first (row_at rows k) text stands) [
        | inl empty ↦ omega arith
        | inr begins ↦ absurd (none k (omega arith) until inside (begins ∙ first))
      ]
    ]

-- a row that equals a word begins as it does
pub differs_first : (rows : List (List ℕ)) (word : List ℕ) (next byte : ℕ) → NoneBegins rows byte 0 next → get_or word 0 0 ≡ byte →
    (k : ℕ) → k < next → k < length rows → row_at rows k ≡ word → ⊥
differs_first rows word next byte none first k until inside same = none k (omega arith) until inside (ap (λ (spelling : List ℕ). get_or spelling 0 0) same ∙ first)

pub differs_before : (rows : List (List ℕ)) (word : List ℕ) (number next byte : ℕ) →
    ((k : ℕ) → k < number → k < length rows → row_at rows k ≡ word → ⊥) → (row_at rows number ≡ word → ⊥) → NoneBegins rows byte (number + 1) next → get_or word 0 0 ≡ byte →
    (k : ℕ) → k < next → k < length rows → row_at rows k ≡ word → ⊥
differs_before rows word number next byte before this none first k until inside same =
    elim (cases_order k number) [
      | inl at ↦ this (rw at at same)
      | inr (inl below) ↦ before k below inside same
      | inr (inr above) ↦ none k (omega arith) until inside (ap (λ (spelling : List ℕ). get_or spelling 0 0) same ∙ first)
    ]

-- no row stands at the end of a text
pub none_at_end : (spelling bytes : List ℕ) (at : ℕ) → at ≡ length bytes → 0 < length spelling → StandsAt spelling bytes at → ⊥
none_at_end spelling bytes at end filled stands =
    omega (arith, ap length stands, length-take (length spelling) (Rattle.std.proofs.Common.drop at bytes), length-drop at bytes)

-- no row is an empty word
pub none_empty : (spelling word : List ℕ) → 0 < length spelling → length word ≡ 0 → spelling ≡ word → ⊥
none_empty spelling word filled empty same = omega (arith, ap length same)
