-- First positions of items, and definitions whose `#` is among some bytes.
use Rattle.std.proofs.Common.{◌≡◌, ◌<◌, ◌≤◌, ◌⊎◌, inl, inr, ℕ, zero, suc, ◌+◌, Bool, true, false, cond, ◌&&◌, ◌||◌, ◌==◌, leb, ltb, min, List, [], ◌∷◌, map, find, Option, Some, None, slice_get, refl, sym, ap, ◌∙◌, arith}
use Rattle.std.specs.Prelude.{option_map, option_and_then}
use Rattle.std.proofs.lemmas.Bool.{cases_lt, lt-ltb, le-ltb, le-leb, leb-true, eq-eqb, ne_eqb}
use Rattle.dm_token.specs.declared.expansion.Definition.{Definition}
use Rattle.dm_token.specs.declared.unit.Read.{Read}
use Rattle.dm_runs.specs.Runs.{is_at, is_file}
use Rattle.dm_runs.specs.Spans.{positions}
use Rattle.dm_rules.specs.Lines.{first_position, is_between, least}
use Rattle.dm_rules.proofs.ListLemmas.{first-position}

by-test : {P : Type 0} (b : Bool) → (b ≡ true → P) → (b ≡ false → P) → P
by-test true holds fails = holds refl
by-test false holds fails = fails refl

-- the lesser of a number and of one behind it
least-here : (n : ℕ) (other : Option ℕ) → ((m : ℕ) → other ≡ Some m → suc n ≤ m) → least (Some n) other ≡ Some n
least-here n None above = refl
least-here n (Some m) above = let up = above m refl in let same : min n m ≡ n = omega (arith, up) in ap Some same

least-there : (n : ℕ) (other : Option ℕ) → ((m : ℕ) → other ≡ Some m → suc n ≤ m) → least other (Some n) ≡ Some n
least-there n None above = refl
least-there n (Some m) above = let up = above m refl in let same : min m n ≡ n = omega (arith, up) in ap Some same

least-same : (n : ℕ) → least (Some n) (Some n) ≡ Some n
least-same n = let same : min n n ≡ n = omega arith in ap Some same

module _ {A : Type 0} where
  -- it is the first of all positions
  pub head-first : (test : A → Bool) (n : ℕ) (xs : List A) → slice_get (positions test n xs) 0 ≡ first_position test n xs
  head-first test n [] = refl
  head-first test n (x ∷ xs) = by (test x) (head-first test (suc n) xs)
    where
      by : (b : Bool) → slice_get (positions test (suc n) xs) 0 ≡ first_position test (suc n) xs
          → slice_get (cond b (n ∷ positions test (suc n) xs) (positions test (suc n) xs)) 0 ≡ cond b (Some n) (first_position test (suc n) xs)
      by true rest = refl
      by false rest = rest

  -- the item there is the one that a search finds
  pub found-first : (test : A → Bool) (xs : List A) → option_and_then (slice_get xs) (first_position test 0 xs) ≡ find test xs
  found-first test xs = ap (option_and_then (slice_get xs)) (sym (head-first test 0 xs)) ∙ first-position test xs

  later : (test : A → Bool) (n : ℕ) (xs : List A) (m : ℕ) → first_position test n xs ≡ Some m → n ≤ m
  later test n [] m is = absurd (cc is)
  later test n (x ∷ xs) m is =
      by-test (test x)
      (λ e. let same : Some n ≡ Some m = sym (ap (λ b. cond b (Some n) (first_position test (suc n) xs)) e) ∙ is in let one : n ≡ m = cc same in omega (arith, one))
      (λ e. let up = later test (suc n) xs m (sym (ap (λ b. cond b (Some n) (first_position test (suc n) xs)) e) ∙ is) in omega (arith, up))

  -- one of two tests is passed first where the first of either is passed
  pub least-either : (one other : A → Bool) (n : ℕ) (xs : List A)
      → least (first_position one n xs) (first_position other n xs) ≡ first_position (λ x. one x || other x) n xs
  least-either one other n [] = refl
  least-either one other n (x ∷ xs) = by (one x) (other x) (least-either one other (suc n) xs)
    where
      rest : (A → Bool) → Option ℕ
      rest test = first_position test (suc n) xs

      by : (a b : Bool) → least (rest one) (rest other) ≡ rest (λ x. one x || other x)
          → least (cond a (Some n) (rest one)) (cond b (Some n) (rest other)) ≡ cond (a || b) (Some n) (rest (λ x. one x || other x))
      by true true same = least-same n
      by true false same = least-here n (rest other) (later other (suc n) xs)
      by false true same = least-there n (rest one) (later one (suc n) xs)
      by false false same = same

  -- tests that agree are passed first at one place
  pub same-first : (one other : A → Bool) → ((x : A) → one x ≡ other x) → (n : ℕ) (xs : List A) → first_position one n xs ≡ first_position other n xs
  same-first one other agree n [] = refl
  same-first one other agree n (x ∷ xs) =
      ap (λ b. cond b (Some n) (first_position one (suc n) xs)) (agree x)
      ∙ ap (λ found. cond (other x) (Some n) found) (same-first one other agree (suc n) xs)

  pub never-first : (test : A → Bool) → ((x : A) → test x ≡ false) → (n : ℕ) (xs : List A) → first_position test n xs ≡ None
  never-first test fails n [] = refl
  never-first test fails n (x ∷ xs) = ap (λ b. cond b (Some n) (first_position test (suc n) xs)) (fails x) ∙ never-first test fails (suc n) xs

  -- a search among what is mapped
  pub find-mapped : {B : Type 0} (f : A → B) (test : B → Bool) (xs : List A) → find test (map f xs) ≡ option_map f (find (λ x. test (f x)) xs)
  find-mapped f test [] = refl
  find-mapped f test (x ∷ xs) = by (test (f x)) (find-mapped f test xs)
    where
      by : (b : Bool) → find test (map f xs) ≡ option_map f (find (λ y. test (f y)) xs)
          → cond b (Some (f x)) (find test (map f xs)) ≡ option_map f (cond b (Some x) (find (λ y. test (f y)) xs))
      by true rest = refl
      by false rest = rest

-- ---- bytes

and-false : (a : Bool) → (a && false) ≡ false
and-false true = refl
and-false false = refl

or-false : (a : Bool) → (a || false) ≡ a
or-false true = refl
or-false false = refl

split-and : (a b x y : Bool) → (a && (b && (x || y))) ≡ ((a && (b && x)) || (a && (b && y)))
split-and true true x y = refl
split-and true false x y = refl
split-and false b x y = refl

-- one byte more
wider : (from at h : ℕ) → from ≤ at → (leb from h && ltb h (at + 1)) ≡ ((leb from h && ltb h at) || (at == h))
wider from at h le = by (cases_lt h at)
  where
    Goal : Type 0
    Goal = (leb from h && ltb h (at + 1)) ≡ ((leb from h && ltb h at) || (at == h))

    behind : (h ≡ at) ⊎ (at < h) → Goal
    behind (inl same) =
        ap (λ n. leb from n && ltb n (at + 1)) same ∙ ap (λ b. b && ltb at (at + 1)) (le-leb from at le) ∙ lt-ltb at (at + 1) (omega arith)
        ∙ sym (ap (λ n. (leb from n && ltb n at) || (at == n)) same ∙ ap (λ b. (leb from at && b) || (at == at)) (le-ltb at at (omega arith))
        ∙ ap (λ b. b || (at == at)) (and-false (leb from at)) ∙ eq-eqb at at refl)
    behind (inr less) =
        ap (λ b. leb from h && b) (le-ltb h (at + 1) (omega (arith, less))) ∙ and-false (leb from h)
        ∙ sym (ap (λ b. (leb from h && b) || (at == h)) (le-ltb h at (omega (arith, less))) ∙ ap (λ b. b || (at == h)) (and-false (leb from h)) ∙ ne_eqb at h (λ same. omega (arith, same, less)))

    split : at ≤ h → (h ≡ at) ⊎ (at < h)
    split past = case (cases_lt at h)
      where
        case : (at < h) ⊎ (h ≤ at) → (h ≡ at) ⊎ (at < h)
        case (inl less) = inr less
        case (inr not_less) = let same : h ≡ at = omega (arith, past, not_less) in inl same

    by : (h < at) ⊎ (at ≤ h) → Goal
    by (inl less) =
        ap (λ b. leb from h && b) (lt-ltb h (at + 1) (omega (arith, less)))
        ∙ sym (ap (λ b. (leb from h && b) || (at == h)) (lt-ltb h at less) ∙ ap (λ b. (leb from h && true) || b) (ne_eqb at h (λ same. omega (arith, same, less))) ∙ or-false (leb from h && true))
    by (inr past) = behind (split past)

pub one-more : (file from at : ℕ) → from ≤ at → (one : Definition) → is_between file from (at + 1) one ≡ (is_between file from at one || is_at file at one)
one-more file from at le one =
    ap (λ b. is_file one.origin && ((file == one.place.file) && b)) (wider from at one.hash le)
    ∙ split-and (is_file one.origin) (file == one.place.file) (leb from one.hash && ltb one.hash at) (at == one.hash)

nowhere : (from at h : ℕ) → at ≤ from → (leb from h && ltb h at) ≡ false
nowhere from at h le = by (cases_lt h at)
  where
    by : (h < at) ⊎ (at ≤ h) → (leb from h && ltb h at) ≡ false
    by (inl less) = few (leb from h) refl
      where
        few : (b : Bool) → leb from h ≡ b → (leb from h && ltb h at) ≡ false
        few false e = ap (λ b. b && ltb h at) e
        few true e = let up = leb-true from h e in absurd (omega (arith, up, less, le))
    by (inr past) = ap (λ b. leb from h && b) (le-ltb h at past) ∙ and-false (leb from h)

both-false : (a b : Bool) → (a && (b && false)) ≡ false
both-false true true = refl
both-false true false = refl
both-false false b = refl

pub none-between : (file from to : ℕ) → to ≤ from → (one : Definition) → is_between file from to one ≡ false
none-between file from to le one =
    ap (λ b. is_file one.origin && ((file == one.place.file) && b)) (nowhere from to one.hash le) ∙ both-false (is_file one.origin) (file == one.place.file)

-- the definition at the first position is the first one
pub between-first : (file from at to : ℕ) (all : List Read) (found : Option ℕ) → found ≡ first_position (λ (one : Read). is_between file from at one.definition) 0 all
    → ((one : Definition) → is_between file from at one ≡ is_between file from to one)
    → option_map (λ (one : Read). one.definition) (option_and_then (slice_get all) found) ≡ find (is_between file from to) (map (λ (one : Read). one.definition) all)
between-first file from at to all found is same =
    ap (λ number. option_map (λ (one : Read). one.definition) (option_and_then (slice_get all) number))
    (is ∙ same-first (λ (one : Read). is_between file from at one.definition) (λ (one : Read). is_between file from to one.definition) (λ one. same one.definition) 0 all)
    ∙ ap (option_map (λ (one : Read). one.definition)) (found-first (λ (one : Read). is_between file from to one.definition) all)
    ∙ sym (find-mapped (λ (one : Read). one.definition) (is_between file from to) all)

-- where all bytes are looked up
pub all-bytes : (file from at to : ℕ) → to ≤ at → (from ≤ to → at ≤ to) → (to ≤ from → at ≤ from) → (one : Definition) → is_between file from at one ≡ is_between file from to one
all-bytes file from at to past short still one = by (cases_lt from to)
  where
    by : (from < to) ⊎ (to ≤ from) → is_between file from at one ≡ is_between file from to one
    by (inl less) = let up = short (omega (arith, less)) in let same : at ≡ to = omega (arith, up, past) in ap (λ n. is_between file from n one) same
    by (inr none) = none-between file from at (still none) one ∙ sym (none-between file from to none one)
