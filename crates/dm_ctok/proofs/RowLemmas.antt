-- The row of a word in a table.
use Rattle.std.proofs.Common.{◌≡◌, ℕ, zero, suc, ◌<◌, Bool, true, false, not, ltb, List, [], ◌∷◌, length, get_or, refl, ap, sym, ◌∙◌, arith, Option, Some, None}
use Rattle.std.specs.Prelude.{bytes_eq, position, slice_get, Contains, IfSome, IfNone}
use Rattle.std.specs.List.{list_any, position_or_len}
use Rattle.std.proofs.lemmas.Bool.{not-true, and_parts, or_parts, false≢true, lt-ltb, cond-true, cond-false, false_from_ne_true}
use Rattle.std.proofs.lemmas.Bool.Decides.{nat_tests}
use Rattle.std.proofs.lemmas.List.{get_or_default}
use Rattle.std.proofs.lemmas.Slice.Eq.{bytes_eq-Decides}
use Rattle.std.proofs.lemmas.Option.{slice_get_within, get_or_from_slice_get}
use Rattle.dm_spell.specs.Rows.{all_differ}
use Rattle.dm_spell.specs.Tables.{keyword_rows}

-- no row passes where none does
list_any-none : (p : List ℕ → Bool) (rows : List (List ℕ)) (k : ℕ) → list_any p rows ≡ false → k < length rows → p (get_or rows k []) ≡ false
list_any-none p [] k none inside = absurd (omega arith)
list_any-none p (row ∷ rows) zero none inside = (or_parts _ _ none).0
list_any-none p (row ∷ rows) (suc k) none inside = list_any-none p rows k (or_parts _ _ none).1 (omega arith)

-- the first row that passes a test
first_row : (p : List ℕ → Bool) (rows : List (List ℕ)) (i : ℕ) → i < length rows → p (get_or rows i []) ≡ true →
    ((k : ℕ) → k < i → p (get_or rows k []) ≡ false) → position_or_len p rows ≡ i
first_row p [] i inside here before = absurd (omega arith)
first_row p (row ∷ rows) zero inside here before = rw here refl
first_row p (row ∷ rows) (suc i) inside here before =
    let first : p row ≡ false = before 0 (omega arith) in
    let others : position_or_len p rows ≡ i = first_row p rows i (omega arith) here (λ k below. before (suc k) (omega arith)) in
    rw first (omega arith)

-- no row passes a test
no_row : (p : List ℕ → Bool) (rows : List (List ℕ)) → ((k : ℕ) → k < length rows → p (get_or rows k []) ≡ false) → position_or_len p rows ≡ length rows
no_row p [] fails = refl
no_row p (row ∷ rows) fails =
    let first : p row ≡ false = fails 0 (omega arith) in
    let others : position_or_len p rows ≡ length rows = no_row p rows (λ k below. fails (suc k) (omega arith)) in
    rw first (omega arith)

-- two rows of a table differ
rows_differ : (rows : List (List ℕ)) (j i : ℕ) → all_differ rows ≡ true → j < i → i < length rows → get_or rows i [] ≡ get_or rows j [] → ⊥
rows_differ [] j i differ before inside same = omega arith
rows_differ (row ∷ rows) j zero differ before inside same = omega arith
rows_differ (row ∷ rows) zero (suc i) differ before inside same =
    let parts : (not (list_any (bytes_eq row) rows) ≡ true) × (all_differ rows ≡ true) = and_parts _ _ differ in
    let apart : bytes_eq row (get_or rows i []) ≡ false = list_any-none (bytes_eq row) rows i (not-true _ parts.0) (omega arith) in
    false≢true (sym apart ∙ (bytes_eq-Decides row (get_or rows i [])).1 (sym same))
rows_differ (row ∷ rows) (suc j) (suc i) differ before inside same =
    let parts : (not (list_any (bytes_eq row) rows) ≡ true) × (all_differ rows ≡ true) = and_parts _ _ differ in
    rows_differ rows j i parts.1 (omega arith) (omega arith) same

-- a row, whatever stands past the end
is_there : (rows : List (List ℕ)) (word : List ℕ) (k : ℕ) → k < length rows → word ≡ get_or rows k [] → get_or rows k word ≡ word
is_there rows word k inside same = get_or_default rows k word [] inside ∙ sym same

-- the row that equals a word
position-row : (rows : List (List ℕ)) (word : List ℕ) (i : ℕ) → all_differ rows ≡ true → slice_get rows i ≡ Some word → position (bytes_eq word) rows ≡ Some i
position-row rows word i differ is =
    let inside : i < length rows = slice_get_within rows i word is in
    let here : get_or rows i [] ≡ word = get_or_from_slice_get rows i word [] is in
    let first : position_or_len (bytes_eq word) rows ≡ i =
    first_row (bytes_eq word) rows i inside ((bytes_eq-Decides word (get_or rows i [])).1 (sym here))
    (λ k below. false_from_ne_true _ (λ same. rows_differ rows k i differ below inside (here ∙ (bytes_eq-Decides word (get_or rows k [])).0 same))) in
    let below : position_or_len (bytes_eq word) rows < length rows = omega arith in
    cond-true (ltb (position_or_len (bytes_eq word) rows) (length rows)) _ _ (lt-ltb (position_or_len (bytes_eq word) rows) (length rows) below) ∙ ap Some first

-- no row equals a word that isn't among them
position-none : (rows : List (List ℕ)) (word : List ℕ) → (Contains rows word → ⊥) → position (bytes_eq word) rows ≡ None
position-none rows word absent =
    let past : position_or_len (bytes_eq word) rows ≡ length rows =
    no_row (bytes_eq word) rows (λ k below. false_from_ne_true _ (λ same.
    absurd (absent (k, below, is_there rows word k below ((bytes_eq-Decides word (get_or rows k [])).0 same))))) in
    let above : ltb (position_or_len (bytes_eq word) rows) (length rows) ≡ false = grind (arith, nat_tests) in
    cond-false (ltb (position_or_len (bytes_eq word) rows) (length rows)) _ _ above

-- what is found is the first row that equals the word
found_row : (rows : List (List ℕ)) (word : List ℕ) (found : Option ℕ) → all_differ rows ≡ true → IfSome found (λ i. slice_get rows i ≡ Some word) → IfNone found (Contains rows word → ⊥) →
    found ≡ position (bytes_eq word) rows
found_row rows word None differ some none = sym (position-none rows word none)
found_row rows word (Some i) differ some none = sym (position-row rows word i differ some)

-- no two keywords are equal
keywords_differ : all_differ keyword_rows ≡ true
unfolding keyword_rows
keywords_differ = refl

-- what is found among the keywords
pub found_keyword : (rows : List (List ℕ)) (word : List ℕ) (found : Option ℕ) → rows ≡ keyword_rows → IfSome found (λ i. slice_get rows i ≡ Some word) → IfNone found (Contains rows word → ⊥) →
    found ≡ position (bytes_eq word) keyword_rows
found_keyword rows word found is some none =
    let differ : all_differ rows ≡ true = ap all_differ is ∙ keywords_differ in
    found_row rows word found differ some none ∙ ap (position (bytes_eq word)) is
