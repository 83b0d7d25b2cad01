-- How the files that a reading knows grow: names come behind those that are there, and what was found stays found.
use Rattle.std.proofs.Common.{◌≡◌, ℕ, zero, suc, ◌<◌, ◌≤◌, Bool, true, false, cond, ◌||◌, ◌⊎◌, inl, inr, List, [], ◌∷◌, ◌++◌, length, get_or, refl, sym, ap, ◌∙◌, subst, arith, eqb, bytes_eq, append_assoc, true≢false}
use Rattle.std.specs.List.{list_any, position_or_len}
use Rattle.std.proofs.lemmas.Bool.{eqb-true, eq-eqb}
use Rattle.std.proofs.lemmas.List.{append-nil, length-append, length-set, get_or_append_left, get_or-set_same, get_or-set_other}
use Rattle.std.proofs.lemmas.List.Folds.{list_any-append}
use Rattle.dm_unit.specs.States.{Catalogue}
use Rattle.dm_unit.specs.Includes.{number_in, numbered, is_found, with_found}
use Rattle.dm_unit.specs.Readings.{is_among, with_number}
use Rattle.dm_unit.proofs.NameLemmas.{name-at, name-inside, name-behind, name-kept, name-last}

-- the name of a number
abbrev pub called : Catalogue → ℕ → List ℕ
called files number = get_or files.names number []

-- a file that has the number of its name
abbrev pub IsOwn : Catalogue → ℕ → Type 0
IsOwn files file = (file < length files.names) × (number_in files (called files file) ≡ file)

-- and was found
abbrev pub IsThere : Catalogue → ℕ → Type 0
IsThere files file = IsOwn files file × (is_found files file ≡ true)

-- names come behind, and what was found or read stays so
pub record Grown (files : Catalogue) (read : List ℕ) (later : Catalogue) (later_read : List ℕ) : Type 0 where
  pub names : (more : List (List ℕ)) × (later.names ≡ files.names ++ more)
  pub found : (file : ℕ) → is_found files file ≡ true → is_found later file ≡ true
  pub reads : (file : ℕ) → is_among file read ≡ true → is_among file later_read ≡ true

pub grown-itself : (files : Catalogue) (read : List ℕ) → Grown files read files read
grown-itself files read = record { names = ([], sym (append-nil files.names)); found = λ file h. h; reads = λ file h. h }

pub grown-trans : (a b c : Catalogue) (r s t : List ℕ) → Grown a r b s → Grown b s c t → Grown a r c t
grown-trans a b c r s t first second = record {
  names = (first.names.0 ++ second.names.0, second.names.1 ∙ ap (λ ns. ns ++ second.names.0) first.names.1 ∙ append_assoc a.names first.names.0 second.names.0);
  found = λ file h. second.found file (first.found file h);
  reads = λ file h. second.reads file (first.reads file h);
}

-- the same files, where more are read
pub grown-again : (a b : Catalogue) (r s : List ℕ) → Grown a r b s → Grown a [] b []
grown-again a b r s grown = record { names = grown.names; found = grown.found; reads = λ file h. h }

pub grown-over : (a b : Catalogue) (r : List ℕ) → Grown a [] b [] → Grown a r b r
grown-over a b r grown = record { names = grown.names; found = grown.found; reads = λ file h. h }

-- NUMBERS

pub longer : (a b : Catalogue) (r s : List ℕ) → Grown a r b s → length a.names ≤ length b.names
longer a b r s grown = let all = ap length grown.names.1 ∙ length-append a.names grown.names.0 in omega (arith, all)

pub called-kept : (a b : Catalogue) (r s : List ℕ) (file : ℕ) → Grown a r b s → file < length a.names → called b file ≡ called a file
called-kept a b r s file grown inside = ap (λ ns. get_or ns file []) grown.names.1 ∙ get_or_append_left a.names grown.names.0 [] file inside

among-inside : (name : List ℕ) (names : List (List ℕ)) → position_or_len (bytes_eq name) names < length names → list_any (bytes_eq name) names ≡ true
among-inside name names inside = by (list_any (bytes_eq name) names) refl
  where
    by : (b : Bool) → list_any (bytes_eq name) names ≡ b → b ≡ true
    by true h = refl
    by false h = let behind = name-behind name names h in absurd (omega (arith, behind, inside))

-- the number of a name that is there
pub number-kept : (a b : Catalogue) (r s : List ℕ) (name : List ℕ) → Grown a r b s → number_in a name < length a.names → number_in b name ≡ number_in a name
number-kept a b r s name grown inside = ap (position_or_len (bytes_eq name)) grown.names.1 ∙ name-kept name a.names grown.names.0 (among-inside name a.names inside)

pub own-kept : (a b : Catalogue) (r s : List ℕ) (file : ℕ) → Grown a r b s → IsOwn a file → IsOwn b file
own-kept a b r s file grown own =
    let here : number_in a (called a file) < length a.names = subst (λ n. n < length a.names) (sym own.1) own.0 in
    let more = longer a b r s grown in
    (omega (arith, own.0, more), ap (number_in b) (called-kept a b r s file grown own.0) ∙ number-kept a b r s (called a file) grown here ∙ own.1)

pub there-kept : (a b : Catalogue) (r s : List ℕ) (file : ℕ) → Grown a r b s → IsThere a file → IsThere b file
there-kept a b r s file grown there = (own-kept a b r s file grown there.0, grown.found file there.1)

-- A NAME HAS A NUMBER

grown-name : (files : Catalogue) (name : List ℕ) → Grown files [] (numbered name files) []
grown-name files name = by (list_any (bytes_eq name) files.names)
  where
    pushed : (found : List Bool) (n : ℕ) → get_or (found ++ false ∷ []) n false ≡ get_or found n false
    pushed [] zero = refl
    pushed [] (suc n) = refl
    pushed (x ∷ xs) zero = refl
    pushed (x ∷ xs) (suc n) = pushed xs n

    by : (b : Bool) → Grown files [] (cond b files (record { names = files.names ++ name ∷ []; found = files.found ++ false ∷ [] })) []
    by true = grown-itself files []
    by false = record { names = (name ∷ [], refl); found = λ file h. pushed files.found file ∙ h; reads = λ file h. h }

-- it is the number that it has or is to have
named-number : (files : Catalogue) (name : List ℕ) → number_in (numbered name files) name ≡ number_in files name
named-number files name = by (list_any (bytes_eq name) files.names) refl
  where
    by : (b : Bool) → list_any (bytes_eq name) files.names ≡ b → number_in (cond b files (record { names = files.names ++ name ∷ []; found = files.found ++ false ∷ [] })) name ≡ number_in files name
    by true h = refl
    by false h = name-last name files.names h ∙ sym (name-behind name files.names h)

among-numbered : (files : Catalogue) (name : List ℕ) → list_any (bytes_eq name) (numbered name files).names ≡ true
among-numbered files name = by (list_any (bytes_eq name) files.names) refl
  where
    or-true : (a : Bool) → (a || true) ≡ true
    or-true true = refl
    or-true false = refl

    last : (names : List (List ℕ)) → list_any (bytes_eq name) (names ++ name ∷ []) ≡ true
    last names = among-inside name (names ++ name ∷ []) (at (list_any (bytes_eq name) names) refl)
      where
        at : (b : Bool) → list_any (bytes_eq name) names ≡ b → position_or_len (bytes_eq name) (names ++ name ∷ []) < length (names ++ name ∷ [])
        at true h = let kept = name-kept name names (name ∷ []) h in let inside = name-inside name names h in let all = length-append names (name ∷ []) in omega (arith, kept, inside, all)
        at false h = let here = name-last name names h in let all = length-append names (name ∷ []) in omega (arith, here, all)

    by : (b : Bool) → list_any (bytes_eq name) files.names ≡ b → list_any (bytes_eq name) (cond b files (record { names = files.names ++ name ∷ []; found = files.found ++ false ∷ [] })).names ≡ true
    by true h = h
    by false h = last files.names

pub slots-numbered : (files : Catalogue) (name : List ℕ) → length files.found ≡ length files.names → length (numbered name files).found ≡ length (numbered name files).names
slots-numbered files name slots = by (list_any (bytes_eq name) files.names)
  where
    by : (b : Bool) → let more : Catalogue = cond b files (record { names = files.names ++ name ∷ []; found = files.found ++ false ∷ [] }) in length more.found ≡ length more.names
    by true = slots
    by false = let a = length-append files.found (false ∷ []) in let b = length-append files.names (name ∷ []) in omega (arith, a, b, slots)

pub own-numbered : (files : Catalogue) (name : List ℕ) → IsOwn (numbered name files) (number_in files name)
own-numbered files name =
    let among = among-numbered files name in
    let at : called (numbered name files) (number_in (numbered name files) name) ≡ name = name-at name (numbered name files).names among in
    let is = named-number files name in (
      subst (λ n. n < length (numbered name files).names) is (name-inside name (numbered name files).names among),
      ap (λ n. number_in (numbered name files) (called (numbered name files) n)) (sym is) ∙ ap (number_in (numbered name files)) at ∙ is,
    )

pub called-numbered : (files : Catalogue) (name : List ℕ) → called (numbered name files) (number_in files name) ≡ name
called-numbered files name = ap (called (numbered name files)) (sym (named-number files name)) ∙ name-at name (numbered name files).names (among-numbered files name)

pub number-numbered : (files : Catalogue) (name : List ℕ) → number_in (numbered name files) name ≡ number_in files name
number-numbered files name = named-number files name

pub grown-numbered : (files : Catalogue) (name : List ℕ) (read : List ℕ) → Grown files read (numbered name files) read
grown-numbered files name read = grown-over files (numbered name files) read (grown-name files name)

-- where all names are known, nothing changes
pub numbered-known : (files : Catalogue) (name : List ℕ) → number_in files name < length files.names → numbered name files ≡ files
numbered-known files name inside = ap (λ b. cond b files (record { names = files.names ++ name ∷ []; found = files.found ++ false ∷ [] })) (among-inside name files.names inside)

-- A FILE IS FOUND

pub found-now : (files : Catalogue) (file : ℕ) → file < length files.found → is_found (with_found file files) file ≡ true
found-now files file inside = get_or-set_same files.found file true false inside

pub grown-found : (files : Catalogue) (file : ℕ) (read : List ℕ) → file < length files.found → Grown files read (with_found file files) read
grown-found files file read inside = record { names = ([], sym (append-nil files.names)); found = found; reads = λ file h. h }
  where
    found : (other : ℕ) → is_found files other ≡ true → is_found (with_found file files) other ≡ true
    found other h = by (eqb other file) refl
      where
        by : (b : Bool) → eqb other file ≡ b → is_found (with_found file files) other ≡ true
        by true e = ap (is_found (with_found file files)) (eqb-true other file e) ∙ found-now files file inside
        by false e = get_or-set_other files.found file other true false (λ same. true≢false (sym (ap (eqb other) (sym same) ∙ eq-eqb other other refl) ∙ e)) ∙ h

pub slots-found : (files : Catalogue) (file : ℕ) → length files.found ≡ length files.names → length (with_found file files).found ≡ length (with_found file files).names
slots-found files file slots = length-set files.found file true ∙ slots

-- FILES THAT ARE READ

pub among-more : (file number : ℕ) (read : List ℕ) → is_among file read ≡ true → is_among file (with_number read number) ≡ true
among-more file number read h = by (is_among number read)
  where
    by : (b : Bool) → is_among file (cond b read (read ++ number ∷ [])) ≡ true
    by true = h
    by false = list_any-append (eqb file) read (number ∷ []) ∙ ap (λ b. b || (eqb file number || false)) h

pub among-last : (number : ℕ) (read : List ℕ) → is_among number (with_number read number) ≡ true
among-last number read = by (is_among number read) refl
  where
    or-true : (a : Bool) → (a || (true || false)) ≡ true
    or-true true = refl
    or-true false = refl

    by : (b : Bool) → is_among number read ≡ b → is_among number (cond b read (read ++ number ∷ [])) ≡ true
    by true h = h
    by false h = list_any-append (eqb number) read (number ∷ []) ∙ ap (λ b. is_among number read || (b || false)) (eq-eqb number number refl) ∙ or-true (is_among number read)

pub among-cases : (file number : ℕ) (read : List ℕ) → is_among file (with_number read number) ≡ true → (is_among file read ≡ true) ⊎ (file ≡ number)
among-cases file number read = by (is_among number read)
  where
    split : (a b : Bool) → eqb file number ≡ b → (a || (b || false)) ≡ true → (a ≡ true) ⊎ (file ≡ number)
    split true b e h = inl refl
    split false true e h = inr (eqb-true file number e)
    split false false e h = absurd (true≢false (sym h))

    by : (b : Bool) → is_among file (cond b read (read ++ number ∷ [])) ≡ true → (is_among file read ≡ true) ⊎ (file ≡ number)
    by true h = inl h
    by false h = split (is_among file read) (eqb file number) refl (sym (list_any-append (eqb file) read (number ∷ [])) ∙ h)
