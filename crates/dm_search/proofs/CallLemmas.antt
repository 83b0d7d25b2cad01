-- A search finds the first name that has a file in the call.
use Rattle.std.proofs.Common.{◌≡◌, ℕ, Bool, true, false, cond, ◌||◌, ◌⊎◌, inl, inr, List, [], ◌∷◌, length, Option, None, Some, Result, Ok, is_some, refl, sym, ap, ◌∙◌, subst, true≢false, bytes_eq, nat_lt}
use Rattle.std.specs.Option.{MatchOption}
use Rattle.std.specs.List.{position_or_len}
use Rattle.std.proofs.lemmas.List.Folds.{list_any-append}
use Rattle.std.proofs.lemmas.Slice.Eq.{bytes_eq-Decides}
use Rattle.dm_token.specs.Limits.{source_length_limit}
use Rattle.dm_io.specs.declared.folder.Got.TheVariants.{Bytes, Absent, Long}
use Rattle.dm_io.specs.Answers.{reading_of}
use Rattle.dm_io.specs.Files.{Files, file_at}
use Rattle.dm_search.specs.Loaded.{Loaded, number_of, held_at, is_held, is_absent, with_name}
use Rattle.dm_search.specs.CallFiles.{known_or, file_for, first_with_file, FindsFirst}
use Rattle.dm_search.specs.Searching.{IsUnknown, PassesOver, EndsAt, Finds}
use Rattle.dm_search.specs.Loading.{Loads}
use Rattle.dm_search.proofs.SearchLemmas.{passes-names}

-- what a reading says of a file
none-of : (file : Option (List ℕ)) → Absent ≡ reading_of file source_length_limit → file ≡ None
none-of None is = refl
none-of (Some bytes) is = absurd (by (nat_lt source_length_limit (length bytes)) is)
  where
    by : (b : Bool) → Absent ≡ cond b Long (Bytes bytes) → ⊥
    by true is = cc
    by false is = cc

some-of : (file : Option (List ℕ)) (bytes : List ℕ) → Bytes bytes ≡ reading_of file source_length_limit → is_some file ≡ true
some-of None bytes is = absurd (cc)
some-of (Some other) bytes is = refl

-- what a loader knows of a file
held-known : (held : Option (List ℕ)) (absent : Bool) (file : Option (List ℕ)) → is_some held ≡ true → is_some (known_or held absent file) ≡ true
held-known None absent file h = absurd (true≢false (sym h))
held-known (Some bytes) absent file h = refl

absent-known : (held : Option (List ℕ)) (absent : Bool) (file : Option (List ℕ)) → is_some held ≡ false → absent ≡ true → known_or held absent file ≡ None
absent-known (Some bytes) absent file h a = absurd (true≢false h)
absent-known None true file h a = refl
absent-known None false file h a = absurd (true≢false (sym a))

pub nothing-known : (held : Option (List ℕ)) (absent : Bool) (file : Option (List ℕ)) → is_some held ≡ false → absent ≡ false → known_or held absent file ≡ file
nothing-known (Some bytes) absent file h a = absurd (true≢false h)
nothing-known None true file h a = absurd (true≢false a)
nothing-known None false file h a = refl

-- to know that there is no file changes nothing where there is none
known-none : (held : Option (List ℕ)) (a b : Bool) (file : Option (List ℕ)) → file ≡ None → known_or held a file ≡ known_or held b file
known-none (Some bytes) a b file none = refl
known-none None true true file none = refl
known-none None true false file none = sym none
known-none None false true file none = none
known-none None false false file none = refl

or-false : (b : Bool) → (b || false) ≡ b
or-false true = refl
or-false false = refl

-- to pass over a name leaves the files of the call
pub passes-same : (files : Files) (name : List ℕ) (old next : Loaded) → PassesOver (Some files) name old next → (other : List ℕ) → file_for next files other ≡ file_for old files other
passes-same files name old next (inl known) other = ap (λ (l : Loaded). file_for l files other) known.1
passes-same files name old next (inr unknown) other =
    ap (λ (l : Loaded). file_for l files other) unknown.2
    ∙ ap (λ b. known_or (held_at old (number_of old other)) b (file_at files other)) (list_any-append (bytes_eq other) old.absent (name ∷ []))
    ∙ by (bytes_eq other name) refl
  where
    by : (t : Bool) → bytes_eq other name ≡ t → known_or (held_at old (number_of old other)) (is_absent old other || (t || false)) (file_at files other) ≡ file_for old files other
    by true same = known-none (held_at old (number_of old other)) _ _ (file_at files other) (ap (file_at files) ((bytes_eq-Decides other name).0 same) ∙ none-of (file_at files name) unknown.1)
    by false apart = ap (λ b. known_or (held_at old (number_of old other)) b (file_at files other)) (or-false (is_absent old other))

-- a name that is passed over has no file
pub passed-none : (files : Files) (name : List ℕ) (old next : Loaded) → PassesOver (Some files) name old next → file_for old files name ≡ None
passed-none files name old next (inl known) = absent-known (held_at old (number_of old name)) (is_absent old name) (file_at files name) known.0.0 known.0.1
passed-none files name old next (inr unknown) =
    nothing-known (held_at old (number_of old name)) (is_absent old name) (file_at files name) unknown.0.0 unknown.0.1 ∙ none-of (file_at files name) unknown.1

-- a name at which the search ends has one
ended-some : (files : Files) (name : List ℕ) (old new : Loaded) (number : ℕ) → EndsAt (Some files) name old (Ok (Some number)) new → is_some (file_for old files name) ≡ true
ended-some files name old new number ends = by ends.1
  where
    by : ((is_held old number ≡ true) × (new ≡ old)) ⊎ (IsUnknown old name × Loads (Some files) name (with_name old name) number (Ok true) new) → is_some (file_for old files name) ≡ true
    by (inl held) = held-known (held_at old (number_of old name)) (is_absent old name) (file_at files name) (sym (ap (is_held old) ends.0) ∙ held.0)
    by (inr loads) =
        ap is_some (nothing-known (held_at old (number_of old name)) (is_absent old name) (file_at files name) loads.0.0 loads.0.1) ∙ some-of (file_at files name) loads.1.0 loads.1.1

injected : {A E : Type 0} (x y : A) → ◌≡◌ {A = Result A E} (Ok x) (Ok y) → x ≡ y
injected x y e = cc

first-same : (files others : List ℕ → Option (List ℕ)) → ((name : List ℕ) → files name ≡ others name) → (names : List (List ℕ)) → first_with_file files names ≡ first_with_file others names
first-same files others same [] = refl
first-same files others same (name ∷ names) =
    ap (λ file. cond (is_some file) (Some name) (first_with_file files names)) (same name) ∙ ap (λ rest. cond (is_some (others name)) (Some name) rest) (first-same files others same names)

-- a search that doesn't stop finds the first name that has a file
pub finds-first : (files : Files) (header : Option ℕ) (names : List (List ℕ)) (old new : Loaded) (found : Option ℕ) → Finds (Some files) header names old (Ok found) new → FindsFirst files header names old found
unfolding Finds
finds-first files header [] old new found finds = let is : found ≡ header = injected found header finds.0 in is
finds-first files header (name ∷ names) old new None (inl ends) = absurd ends
finds-first files header (name ∷ names) old new (Some number) (inl ends) =
    let here : first_with_file (file_for old files) (name ∷ names) ≡ Some name = ap (λ b. cond b (Some name) (first_with_file (file_for old files) names)) (ended-some files name old new number ends) in
    subst (λ o. MatchOption o (Some number ≡ header) (λ n. Some number ≡ Some (number_of old n))) (sym here) (ap Some ends.0)
finds-first files header (name ∷ names) old new found (inr passes) =
    let rest = finds-first files header names passes.0 new found passes.2 in
    let numbers : passes.0.names ≡ old.names = passes-names (Some files) name old passes.0 passes.1 in
    let over : first_with_file (file_for old files) (name ∷ names) ≡ first_with_file (file_for passes.0 files) names =
    ap (λ file. cond (is_some file) (Some name) (first_with_file (file_for old files) names)) (passed-none files name old passes.0 passes.1)
    ∙ sym (first-same (file_for passes.0 files) (file_for old files) (passes-same files name old passes.0 passes.1) names) in
    subst (λ o. MatchOption o (found ≡ header) (λ n. found ≡ Some (number_of old n))) (sym over)
    (subst (λ ns. MatchOption (first_with_file (file_for passes.0 files) names) (found ≡ header) (λ n. found ≡ Some (position_or_len (bytes_eq n) ns))) numbers rest)
