-- A table of spellings as a list of rows, and where a row stands in a text.
--     rows_of from text ends      the rows of a text from the place `from` on, each up to its end
--     row_at rows number      the row with that number
--     rises from ends total      whether the ends rise strictly from above `from` up to `total`
--     all_differ rows      whether no two rows are equal
--     StandsAt row bytes at      the row stands at the place `at` of the bytes
--     NoneBegins rows byte from until      none of the rows from one number up to another begins with that byte
--     is_first number firsts rows      whether no row stands before the number that a list has for the row's first byte
--     is_next number nexts rows      whether no row between a row and the one that a list has for it begins as it does
use Rattle.std.specs.Prelude.{◌≡◌, ℕ, zero, suc, ◌+◌, ◌-◌, ◌<◌, ◌≤◌, List, [], ◌∷◌, length, take, drop, Bool, true, ◌&&◌, not, ◌==◌, nat_le, nat_lt, bytes_eq, slice_index, slice_index_or, slice_range}
use Rattle.std.specs.List.{list_any}

-- the rows of a text from the place `from` on, each up to its end
abbrev pub rows_of : ℕ → List ℕ → List ℕ → List (List ℕ)
rows_of from text [] = []
rows_of from text (end ∷ ends) = slice_range text from end ∷ rows_of end text ends

-- the row with that number
abbrev pub row_at : List (List ℕ) → ℕ → List ℕ
row_at rows number = slice_index_or rows number []

-- whether the ends rise strictly from above `from`, and the last of them, or `from` where there is none, is `total`
abbrev pub rises : ℕ → List ℕ → ℕ → Bool
rises from [] total = from == total
rises from (end ∷ ends) total = nat_lt from end && rises end ends total

-- whether no two rows are equal
abbrev pub all_differ : List (List ℕ) → Bool
all_differ [] = true
all_differ (row ∷ rows) = not (list_any (bytes_eq row) rows) && all_differ rows

-- the row stands at the place `at` of the bytes
abbrev pub StandsAt : List ℕ → List ℕ → ℕ → Type 0
StandsAt row bytes at = take (length row) (drop at bytes) ≡ row

-- none of the rows from one number up to another begins with that byte
abbrev pub NoneBegins : List (List ℕ) → ℕ → ℕ → ℕ → Type 0
NoneBegins rows byte from until = (k : ℕ) → from ≤ k → k < until → k < length rows → slice_index (row_at rows k) 0 ≡ byte → ⊥

-- whether the list has for each row's first byte at most the row's number, where the rows are numbered from `number` on
abbrev pub is_first : ℕ → List ℕ → List (List ℕ) → Bool
is_first number firsts [] = true
is_first number firsts (row ∷ rows) = nat_le (slice_index firsts (slice_index row 0)) number && is_first (number + 1) firsts rows

-- whether none of so many rows at the front begins with that byte
abbrev pub none_begins : ℕ → ℕ → List (List ℕ) → Bool
none_begins byte zero rows = true
none_begins byte (suc count) [] = true
none_begins byte (suc count) (row ∷ rows) = not (slice_index row 0 == byte) && none_begins byte count rows

-- whether the list has for each row a later number, between which no row begins as it does
abbrev pub is_next : ℕ → List ℕ → List (List ℕ) → Bool
is_next number [] rows = true
is_next number (next ∷ nexts) [] = true
is_next number (next ∷ nexts) (row ∷ rows) =
    nat_lt number next && none_begins (slice_index row 0) (next - (number + 1)) rows && is_next (number + 1) nexts rows
