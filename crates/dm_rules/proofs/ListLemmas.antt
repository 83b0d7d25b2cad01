-- The items of a list at some positions.
use Rattle.std.proofs.Common.{◌≡◌, ℕ, zero, suc, ◌+◌, ◌<◌, ◌≤◌, Bool, true, false, cond, ◌&&◌, ◌||◌, not, ◌==◌, List, [], ◌∷◌, ◌++◌, length, drop, take, get_or, Option, Some, None, slice_get, find, bytes_eq, refl, sym, ap, ◌∙◌, arith, append_assoc}
use Rattle.std.specs.Prelude.{filter, filter_map, option_and_then, option_map}
use Rattle.std.specs.List.{list_any, cons_option, Contains}
use Rattle.dm_macro.proofs.SameLemmas.{bytes_equal, bytes_itself}
use Rattle.std.proofs.Math.Seq.{drop-cons}
use Rattle.std.proofs.lemmas.Bool.{eqb-true}
use Rattle.std.proofs.lemmas.List.Elements.{filter-append}
use Rattle.std.proofs.lemmas.List.{append-nil, drop_all, length-take-le, take_more}
use Rattle.dm_token.specs.declared.place.Place.{Place}
use Rattle.dm_token.specs.declared.expansion.Expansion.{Expansion}
use Rattle.dm_token.specs.declared.unit.Read.{Read}
use Rattle.dm_runs.specs.declared.run.Run.{Run}
use Rattle.dm_runs.specs.Spans.{positions}
use Rattle.dm_rules.specs.Listing.{first_name, name_if, passes_if, some_at}
use Rattle.dm_rules.specs.Rules.{is_empty}
use Rattle.dm_rules.specs.Uses.{is_run_of, or_else, run_of_first}
use Rattle.dm_runs.proofs.ExtentLemmas.{positions-push}

-- ---- what is left of a list

-- the item at a position stands first in what is left
pub item-left : {A : Type 0} (xs : List A) (i : ℕ) (d : A) → i < length xs → drop i xs ≡ get_or xs i d ∷ drop (i + 1) xs
item-left xs i d inside = let next : suc i ≡ i + 1 = omega arith in drop-cons xs i d inside ∙ ap (λ n. get_or xs i d ∷ drop n xs) next

-- ---- items at positions

abbrev pub items_at : {A : Type 0} → List A → List ℕ → List A
items_at xs numbers = filter_map (slice_get xs) numbers

last-one : {A : Type 0} (xs ys : List A) (x : A) → slice_get (ys ++ x ∷ xs) (length ys) ≡ Some x
last-one xs [] x = refl
last-one xs (y ∷ ys) x = last-one xs ys x

longer : {A : Type 0} (ys : List A) (x : A) → length (ys ++ x ∷ []) ≡ suc (length ys)
longer [] x = refl
longer (y ∷ ys) x = ap suc (longer ys x)

pub positions-filter : {A : Type 0} (test : A → Bool) (xs ys : List A) → items_at (ys ++ xs) (positions test (length ys) xs) ≡ filter test xs
positions-filter test [] ys = refl
positions-filter test (x ∷ xs) ys = by (test x) (ap (λ all. items_at all (positions test (length (ys ++ x ∷ [])) xs)) (append_assoc ys (x ∷ []) xs)) (positions-filter test xs (ys ++ x ∷ []))
  where
    by : (b : Bool) → items_at ((ys ++ x ∷ []) ++ xs) (positions test (length (ys ++ x ∷ [])) xs) ≡ items_at (ys ++ (x ∷ [] ++ xs)) (positions test (length (ys ++ x ∷ [])) xs)
        → items_at ((ys ++ x ∷ []) ++ xs) (positions test (length (ys ++ x ∷ [])) xs) ≡ filter test xs
        → items_at (ys ++ x ∷ xs) (cond b (length ys ∷ positions test (suc (length ys)) xs) (positions test (suc (length ys)) xs)) ≡ cond b (x ∷ filter test xs) (filter test xs)
    by true same rest =
        ap (λ one. cons_option one (items_at (ys ++ x ∷ xs) (positions test (suc (length ys)) xs))) (last-one xs ys x)
        ∙ ap (λ n. x ∷ items_at (ys ++ x ∷ xs) (positions test n xs)) (sym (longer ys x)) ∙ ap (λ all. x ∷ all) (sym same ∙ rest)
    by false same rest = ap (λ n. items_at (ys ++ x ∷ xs) (positions test n xs)) (sym (longer ys x)) ∙ sym same ∙ rest

pub at-positions : {A : Type 0} (test : A → Bool) (xs : List A) → items_at xs (positions test 0 xs) ≡ filter test xs
at-positions test xs = positions-filter test xs []

-- the first of them is that of the first item that passes
first-from : {A : Type 0} (test : A → Bool) (xs ys : List A) → option_and_then (slice_get (ys ++ xs)) (slice_get (positions test (length ys) xs) 0) ≡ find test xs
first-from test [] ys = refl
first-from test (x ∷ xs) ys =
    by (test x) (ap (λ all. option_and_then (slice_get all) (slice_get (positions test (length (ys ++ x ∷ [])) xs) 0)) (append_assoc ys (x ∷ []) xs)) (first-from test xs (ys ++ x ∷ []))
  where
    by : (b : Bool) → option_and_then (slice_get ((ys ++ x ∷ []) ++ xs)) (slice_get (positions test (length (ys ++ x ∷ [])) xs) 0)
        ≡ option_and_then (slice_get (ys ++ (x ∷ [] ++ xs))) (slice_get (positions test (length (ys ++ x ∷ [])) xs) 0)
        → option_and_then (slice_get ((ys ++ x ∷ []) ++ xs)) (slice_get (positions test (length (ys ++ x ∷ [])) xs) 0) ≡ find test xs
        → option_and_then (slice_get (ys ++ x ∷ xs)) (slice_get (cond b (length ys ∷ positions test (suc (length ys)) xs) (positions test (suc (length ys)) xs)) 0) ≡ cond b (Some x) (find test xs)
    by true same rest = last-one xs ys x
    by false same rest = ap (λ n. option_and_then (slice_get (ys ++ x ∷ xs)) (slice_get (positions test n xs) 0)) (sym (longer ys x)) ∙ sym same ∙ rest

pub first-position : {A : Type 0} (test : A → Bool) (xs : List A) → option_and_then (slice_get xs) (slice_get (positions test 0 xs) 0) ≡ find test xs
first-position test xs = first-from test xs []

-- there is none exactly where no item passes
pub no-items : {A : Type 0} (xs : List A) → (length xs == 0) ≡ is_empty xs
no-items [] = refl
no-items (x ∷ xs) = by (length (x ∷ xs) == 0) refl
  where
    by : (b : Bool) → (length (x ∷ xs) == 0) ≡ b → (length (x ∷ xs) == 0) ≡ false
    by true is = let none = eqb-true (length (x ∷ xs)) 0 is in absurd (omega (arith, none))
    by false is = is

empty-cond : {A : Type 0} (b rest : Bool) (x : A) (xs : List A) → is_empty xs ≡ not rest → is_empty (cond b (x ∷ xs) xs) ≡ not (b || rest)
empty-cond true rest x xs same = refl
empty-cond false rest x xs same = same

pub none-passes : {A : Type 0} (test : A → Bool) (n : ℕ) (xs : List A) → is_empty (positions test n xs) ≡ not (list_any test xs)
none-passes test n [] = refl
none-passes test n (x ∷ xs) = empty-cond (test x) (list_any test xs) n (positions test (suc n) xs) (none-passes test (suc n) xs)

pub none-left : {A : Type 0} (test : A → Bool) (xs : List A) → is_empty (filter test xs) ≡ not (list_any test xs)
none-left test [] = refl
none-left test (x ∷ xs) = empty-cond (test x) (list_any test xs) x (filter test xs) (none-left test xs)

pub not-not : (b : Bool) → not (not b) ≡ b
not-not true = refl
not-not false = refl

or-true : (b : Bool) → (b || true) ≡ true
or-true true = refl
or-true false = refl

cond-push : (b : Bool) (xs : List ℕ) (n : ℕ) → xs ++ cond b (n ∷ []) [] ≡ cond b (xs ++ n ∷ []) xs
cond-push true xs n = refl
cond-push false xs n = append-nil xs

-- those of one item more
pub more-positions : {A : Type 0} (test : A → Bool) (xs : List A) (i : ℕ) (d : A) → i < length xs
    → positions test 0 (take i xs) ++ cond (test (get_or xs i d)) (i ∷ []) [] ≡ positions test 0 (take (i + 1) xs)
more-positions test xs i d inside =
    let x = get_or xs i d in
    let count : i ≡ 0 + length (take i xs) = omega (arith, length-take-le i xs (omega (arith, inside))) in
    cond-push (test x) (positions test 0 (take i xs)) i
    ∙ ap (λ n. cond (test x) (positions test 0 (take i xs) ++ n ∷ []) (positions test 0 (take i xs))) count
    ∙ sym (positions-push test 0 (take i xs) x)
    ∙ ap (positions test 0) (sym (take_more xs i d inside))

-- ---- rows of a table

pub is-row : (word : List ℕ) (rows : List (List ℕ)) (number : ℕ) → slice_get rows number ≡ Some word → list_any (bytes_eq word) rows ≡ true
is-row word [] number there = cc
is-row word (row ∷ rows) zero there = let same : row ≡ word = cc in ap (λ b. b || list_any (bytes_eq word) rows) (ap (bytes_eq word) same ∙ bytes_itself word)
is-row word (row ∷ rows) (suc number) there = ap (λ b. bytes_eq word row || b) (is-row word rows number there) ∙ or-true (bytes_eq word row)

pub is-no-row : (word : List ℕ) (rows : List (List ℕ)) → (Contains rows word → ⊥) → list_any (bytes_eq word) rows ≡ false
is-no-row word [] none = refl
is-no-row word (row ∷ rows) none = by (bytes_eq word row) refl (is-no-row word rows (λ there. none (suc there.0, omega (arith, there.1), there.2)))
  where
    by : (b : Bool) → bytes_eq word row ≡ b → list_any (bytes_eq word) rows ≡ false → (bytes_eq word row || list_any (bytes_eq word) rows) ≡ false
    by true is rest = absurd (none (0, omega arith, sym (bytes_equal word row is)))
    by false is rest = ap (λ b. b || list_any (bytes_eq word) rows) is ∙ rest

-- ---- the first expansion at some positions

named : (test : Expansion → Bool) (expansions : List Expansion) (numbers : List ℕ)
    → first_name test expansions numbers ≡ option_map (λ (one : Expansion). one.name) (find test (items_at expansions numbers))
named test expansions [] = refl
named test expansions (number ∷ numbers) = by (slice_get expansions number) (named test expansions numbers)
  where
    by_test : (one : Expansion) (b : Bool) (rest : Option Place) (found : Option Expansion) → rest ≡ option_map (λ (one : Expansion). one.name) found
        → or_else (cond b (Some one.name) None) rest ≡ option_map (λ (one : Expansion). one.name) (cond b (Some one) found)
    by_test one true rest found same = refl
    by_test one false rest found same = same

    by : (found : Option Expansion) → first_name test expansions numbers ≡ option_map (λ (one : Expansion). one.name) (find test (items_at expansions numbers))
        → or_else (name_if test found) (first_name test expansions numbers) ≡ option_map (λ (one : Expansion). one.name) (find test (cons_option found (items_at expansions numbers)))
    by None rest = rest
    by (Some one) rest = by_test one (test one) (first_name test expansions numbers) (find test (items_at expansions numbers)) rest

-- of those that pass another test
pub first-named : (test other : Expansion → Bool) (expansions : List Expansion)
    → first_name test expansions (positions other 0 expansions) ≡ option_map (λ (one : Expansion). one.name) (find test (filter other expansions))
first-named test other expansions =
    named test expansions (positions other 0 expansions) ∙ ap (λ some. option_map (λ (one : Expansion). one.name) (find test some)) (at-positions other expansions)

module _ (test : Expansion → Bool) (expansions : List Expansion) (numbers : List ℕ) (i : ℕ) (whole : Option Place) (left : first_name test expansions (drop i numbers) ≡ whole) where
  pub no-name : length numbers ≤ i → whole ≡ None
  no-name end = sym left ∙ ap (first_name test expansions) (drop_all i numbers end)

  module _ (inside : i < length numbers) where
    next-name : or_else (name_if test (slice_get expansions (get_or numbers i 0))) (first_name test expansions (drop (i + 1) numbers)) ≡ whole
    next-name = sym (ap (first_name test expansions) (item-left numbers i 0 inside)) ∙ left

    pub name-here : (found : Place) → Some found ≡ name_if test (slice_get expansions (get_or numbers i 0)) → Some found ≡ whole
    name-here found here = ap (λ one. or_else one (first_name test expansions (drop (i + 1) numbers))) here ∙ next-name

    pub name-later : None ≡ name_if test (slice_get expansions (get_or numbers i 0)) → first_name test expansions (drop (i + 1) numbers) ≡ whole
    name-later here = ap (λ one. or_else one (first_name test expansions (drop (i + 1) numbers))) here ∙ next-name

-- ---- readings at some positions

some-there : (test : Read → Bool) (read : List Read) (numbers : List ℕ) → some_at test read numbers ≡ list_any test (items_at read numbers)
some-there test read [] = refl
some-there test read (number ∷ numbers) = by (slice_get read number) (some-there test read numbers)
  where
    by : (found : Option Read) → some_at test read numbers ≡ list_any test (items_at read numbers)
        → (passes_if test found || some_at test read numbers) ≡ list_any test (cons_option found (items_at read numbers))
    by None rest = rest
    by (Some one) rest = ap (λ b. test one || b) rest

any-filter : {A : Type 0} (test other : A → Bool) (xs : List A) → list_any test (filter other xs) ≡ list_any (λ x. other x && test x) xs
any-filter test other [] = refl
any-filter test other (x ∷ xs) = by (other x) (any-filter test other xs)
  where
    by : (b : Bool) → list_any test (filter other xs) ≡ list_any (λ x. other x && test x) xs
        → list_any test (cond b (x ∷ filter other xs) (filter other xs)) ≡ ((b && test x) || list_any (λ x. other x && test x) xs)
    by true rest = ap (λ b. test x || b) rest
    by false rest = rest

pub some-of : (test other : Read → Bool) (read : List Read) → some_at test read (positions other 0 read) ≡ list_any (λ (one : Read). other one && test one) read
some-of test other read =
    some-there test read (positions other 0 read) ∙ ap (list_any test) (at-positions other read) ∙ any-filter test other read

module _ (test : Read → Bool) (read : List Read) (numbers : List ℕ) (i : ℕ) (whole : Bool) (left : some_at test read (drop i numbers) ≡ whole) where
  pub none-at : length numbers ≤ i → whole ≡ false
  none-at end = sym left ∙ ap (some_at test read) (drop_all i numbers end)

  module _ (inside : i < length numbers) where
    next-at : (passes_if test (slice_get read (get_or numbers i 0)) || some_at test read (drop (i + 1) numbers)) ≡ whole
    next-at = sym (ap (some_at test read) (item-left numbers i 0 inside)) ∙ left

    pub some-here : true ≡ passes_if test (slice_get read (get_or numbers i 0)) → whole ≡ true
    some-here here = sym next-at ∙ ap (λ b. b || some_at test read (drop (i + 1) numbers)) (sym here)

    pub some-later : false ≡ passes_if test (slice_get read (get_or numbers i 0)) → some_at test read (drop (i + 1) numbers) ≡ whole
    some-later here = ap (λ b. b || some_at test read (drop (i + 1) numbers)) here ∙ next-at

-- ---- what passes among what is left of a list

module _ {A : Type 0} (test : A → Bool) (xs : List A) (i : ℕ) (whole : Bool) (left : list_any test (drop i xs) ≡ whole) where
  pub none-in : length xs ≤ i → whole ≡ false
  none-in end = sym left ∙ ap (list_any test) (drop_all i xs end)

  module _ (d : A) (inside : i < length xs) where
    next-in : (test (get_or xs i d) || list_any test (drop (i + 1) xs)) ≡ whole
    next-in = sym (ap (list_any test) (item-left xs i d inside)) ∙ left

    pub some-in : true ≡ test (get_or xs i d) → whole ≡ true
    some-in here = sym next-in ∙ ap (λ b. b || list_any test (drop (i + 1) xs)) (sym here)

    pub later-in : false ≡ test (get_or xs i d) → list_any test (drop (i + 1) xs) ≡ whole
    later-in here = ap (λ b. b || list_any test (drop (i + 1) xs)) here ∙ next-in

-- ---- what passes among the first items

pub more-filtered : {A : Type 0} (test : A → Bool) (xs : List A) (i : ℕ) (d : A) → i < length xs
    → filter test (take i xs) ++ cond (test (get_or xs i d)) (get_or xs i d ∷ []) [] ≡ filter test (take (i + 1) xs)
more-filtered test xs i d inside =
    sym (ap (filter test) (take_more xs i d inside) ∙ filter-append test (take i xs) (get_or xs i d ∷ []))

-- ---- the first run of the first expansion

pub first-run : (runs : List Run) (test : Expansion → Bool) (expansions : List Expansion)
    → run_of_first runs (filter test expansions) ≡ option_and_then (λ (one : Expansion). find (is_run_of one) runs) (find test expansions)
first-run runs test [] = refl
first-run runs test (one ∷ others) = by (test one) (first-run runs test others)
  where
    by : (b : Bool) → run_of_first runs (filter test others) ≡ option_and_then (λ (one : Expansion). find (is_run_of one) runs) (find test others)
        → run_of_first runs (cond b (one ∷ filter test others) (filter test others)) ≡ option_and_then (λ (one : Expansion). find (is_run_of one) runs) (cond b (Some one) (find test others))
    by true rest = refl
    by false rest = rest
