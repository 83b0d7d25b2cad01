-- The loader of a plan and the files that it leaves, and the reading of all units by a loader that knows them.
--     over      each name has the file that it has over these files
--     project-read      all units are read by such a loader
use Rattle.std.proofs.Common.{◌≡◌, ◌≢◌, ◌⊎◌, inl, inr, ℕ, zero, suc, ◌+◌, ◌<◌, ◌≤◌, Bool, true, false, cond, List, [], ◌∷◌, length, map, All, Option, None, Ok, refl, sym, ap, ◌∙◌, subst, arith, bytes_eq, IsPermutation, nat_eq}
use Rattle.std.specs.Prelude.{◌&&◌, ◌||◌}
use Rattle.std.specs.List.{AllByRecursion, filter, list_any, position_or_len, range_with_len}
use Rattle.std.specs.Cmp.Lexicographic.{slice_cmp}
use Rattle.std.specs.Ordering.{nat_cmp, eq_by_cmp, is_eq}
use Rattle.std.proofs.lemmas.Bool.{cases_eq, false≢true}
use Rattle.std.proofs.lemmas.Bool.Decides.{eqb_tells}
use Rattle.std.proofs.lemmas.Cmp.{nat_list_cmp_total, tied_itself}
use Rattle.std.proofs.lemmas.List.{append-nil}
use Rattle.std.proofs.lemmas.List.Elements.{All-from_recursion, recursion_from_All, All-head, All-tail}
use Rattle.std.proofs.lemmas.List.Sorted.{All-permutation, IsPermutation-sym}
use Rattle.dm_token.specs.Limits.{header_count}
use Rattle.dm_token.specs.declared.unit.Unit.{Unit as Source}
use Rattle.dm_io.specs.Files.{Files, file_at}
use Rattle.dm_search.specs.CallFiles.{file_for, known_or}
use Rattle.dm_search.specs.Fresh.{fresh}
use Rattle.dm_search.specs.Headers.{header_names}
use Rattle.dm_search.specs.Loaded.{Loaded, number_of, held_at, is_held, is_absent}
use Rattle.dm_unit.proofs.NameLemmas.{name-behind, name-inside, name-kept}
use Rattle.dm_reading.specs.declared.reading.Reading.{Reading}
use Rattle.dm_edit.specs.declared.plan.Changed.{Changed}
use Rattle.dm_edit.specs.declared.plan.Entry.{Entry}
use Rattle.dm_local.specs.Kept.{IsOfLoader, IsReadBy}
use Rattle.dm_readings.specs.Leaves.{Follows, IsNumbered}
use Rattle.dm_readings.specs.Units.{KeepsLimits, ReadsProject, ReadsUnits, ending, most_project_tokens, token_count}
use Rattle.dm_kept.specs.Current.{AreCurrent}
use Rattle.dm_subjects.specs.Files.{changed_file, edited_files, is_edited, is_rewritten}
use Rattle.dm_subjects.specs.Subjects.{bytes_at}
use Rattle.dm_planning.proofs.EditLemmas.{bytes-held}
use Rattle.dm_planning.proofs.LeaveLemmas.{inside}
use Rattle.dm_last.specs.Last.{IsOver}
use Rattle.dm_last.proofs.EditedLemmas.{IsOfEdited}
use Rattle.dm_last.proofs.FileLemmas.{IsAsHeld, IsLeft, IsWritten, at-name, files_after, tied}

-- ---- a new loader

held-first : (file : ℕ) → file < header_count → is_held fresh file ≡ true
held-first zero low = refl
held-first (suc zero) low = refl
held-first (suc (suc zero)) low = refl
held-first (suc (suc (suc zero))) low = refl
held-first (suc (suc (suc (suc zero)))) low = refl
held-first (suc (suc (suc (suc (suc zero))))) low = refl
held-first (suc (suc (suc (suc (suc (suc file)))))) low = absurd (omega (arith, low))

pub fresh-loader : IsOfLoader fresh
fresh-loader = ((([], sym (append-nil header_names)), held-first), refl)

-- a name whose number is behind those of the built-in headers isn't that of one
no-header : (loaded : Loaded) → IsOfLoader loaded → (name : List ℕ) → header_count ≤ number_of loaded name → held_at fresh (number_of fresh name) ≡ None
no-header loaded of name behind = by (list_any (bytes_eq name) header_names) refl
  where
    six : length header_names ≡ 6
    six = refl

    by : (b : Bool) → list_any (bytes_eq name) header_names ≡ b → held_at fresh (number_of fresh name) ≡ None
    by true among =
        let number : number_of loaded name ≡ position_or_len (bytes_eq name) header_names =
        ap (λ (names : List (List ℕ)). position_or_len (bytes_eq name) names) of.0.0.1 ∙ name-kept name header_names of.0.0.0 among in
        let within = name-inside name header_names among in
        absurd (omega (arith, number, within, six, behind))
    by false apart = ap (held_at fresh) (name-behind name header_names apart ∙ six)

-- ---- files of rewritten definitions

module _ (loaded : Loaded) (of : IsOfLoader loaded) (numbered : IsNumbered loaded) where
  abbrev pub IsWritable : Entry → Type 0
  IsWritable entry = is_rewritten entry.outcome ≡ true → (header_count ≤ entry.definition.place.file) × (is_held loaded entry.definition.place.file ≡ true)

  both : (a b : Bool) → (a && b) ≡ true → (a ≡ true) × (b ≡ true)
  both true b is = (refl, is)
  both false b is = absurd (false≢true is)

  edited-held : (entries : List Entry) → All IsWritable entries → (file : ℕ) → is_edited entries file ≡ true → (header_count ≤ file) × (is_held loaded file ≡ true)
  edited-held [] are file edited = absurd (false≢true edited)
  edited-held (entry ∷ entries) are file edited = by (is_rewritten entry.outcome && nat_eq entry.definition.place.file file) refl edited (edited-held entries (All-tail IsWritable entry entries are) file)
    where
      here : (is_rewritten entry.outcome ≡ true) × (nat_eq entry.definition.place.file file ≡ true)
          → ((nat_eq entry.definition.place.file file ≡ true) × (entry.definition.place.file ≡ file)) ⊎ ((nat_eq entry.definition.place.file file ≡ false) × (entry.definition.place.file ≢ file))
          → (header_count ≤ file) × (is_held loaded file ≡ true)
      here tests (inl same) = subst (λ (n : ℕ). (header_count ≤ n) × (is_held loaded n ≡ true)) same.1 (All-head IsWritable entry entries are tests.0)
      here tests (inr apart) = absurd (false≢true (sym apart.0 ∙ tests.1))

      by : (b : Bool) → (is_rewritten entry.outcome && nat_eq entry.definition.place.file file) ≡ b → (b || is_edited entries file) ≡ true
          → (is_edited entries file ≡ true → (header_count ≤ file) × (is_held loaded file ≡ true)) → (header_count ≤ file) × (is_held loaded file ≡ true)
      by true e any others = here (both (is_rewritten entry.outcome) (nat_eq entry.definition.place.file file) e) (eqb_tells entry.definition.place.file file)
      by false e any others = others any

  module _ (entries : List Entry) (are : All IsWritable entries) where
    as-held : (file : ℕ) → is_edited entries file ≡ true → IsAsHeld loaded (changed_file loaded file)
    as-held file edited =
        let facts = edited-held entries are file edited in
        let within = subst (λ (n : ℕ). file < n) of.1 (inside loaded file facts.1) in
        subst (λ (n : ℕ). (header_count ≤ n) × (is_held loaded n ≡ true) × (bytes_at loaded file ≡ bytes_at loaded n)) (sym (numbered.differ file within)) (facts.0, facts.1, refl)

    all-held : (files : List ℕ) → AllByRecursion (IsAsHeld loaded) (map (changed_file loaded) (filter (is_edited entries) files))
    all-held [] = tt
    all-held (file ∷ files) = by (is_edited entries file) refl (all-held files)
      where
        by : (b : Bool) → is_edited entries file ≡ b → AllByRecursion (IsAsHeld loaded) (map (changed_file loaded) (filter (is_edited entries) files))
            → AllByRecursion (IsAsHeld loaded) (map (changed_file loaded) (cond b (file ∷ filter (is_edited entries) files) (filter (is_edited entries) files)))
        by true e rest = (as-held file e, rest)
        by false e rest = rest

    abbrev chosen : ℕ → ℕ → List ℕ
    chosen from count = filter (is_edited entries) (range_with_len from count)

    -- what holds of all files that are written holds of each edited one
    pick : (Q : Changed → Type 0) (from count file : ℕ) → from ≤ file → file < from + count → is_edited entries file ≡ true → AllByRecursion Q (map (changed_file loaded) (chosen from count))
        → Q (changed_file loaded file)
    pick Q from zero file low high edited all = absurd (omega (arith, low, high))
    pick Q from (suc count) file low high edited all =
        by (is_edited entries from) refl (cases_eq from file) (λ apart others. pick Q (from + 1) count file (later apart) (omega (arith, high)) edited others) all
      where
        later : (from ≡ file → ⊥) → from + 1 ≤ file
        later not = omega (arith, low, not)

        by : (b : Bool) → is_edited entries from ≡ b → (from ≡ file) ⊎ (from ≡ file → ⊥)
            → ((from ≡ file → ⊥) → AllByRecursion Q (map (changed_file loaded) (chosen (from + 1) count)) → Q (changed_file loaded file))
            → AllByRecursion Q (map (changed_file loaded) (cond b (from ∷ chosen (from + 1) count) (chosen (from + 1) count))) → Q (changed_file loaded file)
        by true e (inl same) rest these = subst (λ (n : ℕ). Q (changed_file loaded n)) same these.0
        by true e (inr apart) rest these = rest apart these.1
        by false e (inl same) rest these = absurd (false≢true (sym e ∙ (ap (is_edited entries) same ∙ edited)))
        by false e (inr apart) rest these = rest apart these

    module _ (files : List Changed) (changed : IsPermutation (map (changed_file loaded) (edited_files loaded entries)) files) where
      abbrev first_order : List Changed
      first_order = map (changed_file loaded) (edited_files loaded entries)

      written-held : AllByRecursion (IsAsHeld loaded) files
      written-held =
          recursion_from_All (IsAsHeld loaded) files
          (All-permutation (IsAsHeld loaded) first_order files changed (All-from_recursion (IsAsHeld loaded) first_order (all-held (range_with_len 0 (length loaded.names)))))

      -- a file that is edited is written
      no-edited : (name : List ℕ) → AllByRecursion (λ (one : Changed). tied name one ≡ false) files → IsOfEdited entries loaded name → ⊥
      no-edited name none (file, within, named, edited) =
          false≢true
          (sym (pick (λ (one : Changed). tied name one ≡ false) 0 (length loaded.names) file (omega arith) (omega (arith, within)) edited
          (recursion_from_All (λ (one : Changed). tied name one ≡ false) first_order
          (All-permutation (λ (one : Changed). tied name one ≡ false) files first_order (IsPermutation-sym first_order files changed)
          (All-from_recursion (λ (one : Changed). tied name one ≡ false) files none))))
          ∙ (ap (λ (it : List ℕ). eq_by_cmp (slice_cmp nat_cmp) name it) named ∙ ap is_eq (tied_itself nat_list_cmp_total name)))

      pub over : (before : Files) → ((name : List ℕ) → IsOfEdited entries loaded name ⊎ (file_for loaded before name ≡ file_for fresh before name)) → IsOver (files_after before files) loaded
      over before served name = by (at-name loaded before files name written-held) (served name)
        where
          after : Files
          after = files_after before files

          by : IsLeft before files name ⊎ IsWritten loaded before files name → IsOfEdited entries loaded name ⊎ (file_for loaded before name ≡ file_for fresh before name)
              → file_for loaded after name ≡ file_for fresh after name
          by (inr written) was =
              ap (λ (o : Option (List ℕ)). known_or o (is_absent loaded name) (file_at after name)) (bytes-held loaded (number_of loaded name) written.1)
              ∙ (sym written.2 ∙ sym (ap (λ (o : Option (List ℕ)). known_or o false (file_at after name)) (no-header loaded of name written.0)))
          by (inl left) (inl edited) = absurd (no-edited name left.0 edited)
          by (inl left) (inr same) =
              ap (known_or (held_at loaded (number_of loaded name)) (is_absent loaded name)) left.1
              ∙ (same ∙ sym (ap (known_or (held_at fresh (number_of fresh name)) (is_absent fresh name)) left.1))

-- ---- all units once more

-- each unit has its reading over any files
pub over-others : (before after : Files) (known : Loaded)
    → ((unit : Source) (reading : Reading) → IsReadBy known before unit reading → IsReadBy known after unit reading) → (units : List Source) (readings : List Reading) → AreCurrent known before units readings
    → AreCurrent known after units readings
over-others before after known hang [] [] are = tt
over-others before after known hang [] (reading ∷ readings) are = absurd are
over-others before after known hang (unit ∷ units) [] are = absurd are
over-others before after known hang (unit ∷ units) (reading ∷ readings) are = (hang unit reading are.0, over-others before after known hang units readings are.1)

follows-itself : (files : Files) (known : Loaded) → Follows files known known
follows-itself files known = record {
  knows = record { begins = ([], sym (append-nil known.names)); held_too = λ file bytes held. held; absent_too = λ name absent. absent };
  served = λ name. refl;
}

units-read : (files : Files) (known : Loaded) (units : List Source) (readings : List Reading) (spent : ℕ) → AreCurrent known files units readings → spent + token_count readings ≤ most_project_tokens
    → ReadsUnits files units spent known (ending (Ok readings) (length units) known)
units-read files known [] [] spent are few = refl
units-read files known [] (reading ∷ readings) spent are few = absurd are
units-read files known (unit ∷ units) [] spent are few = absurd are
units-read files known (unit ∷ units) (reading ∷ readings) spent are few =
    let now : spent + length reading.pp.tokens ≤ most_project_tokens = omega (arith, few) in
    let then : spent + length reading.pp.tokens + token_count readings ≤ most_project_tokens = omega (arith, few) in
    let count : suc (length units) ≡ length units + 1 = omega arith in
    inr (
      reading,
      known,
      ending (Ok readings) (length units) known,
      (are.0, now, follows-itself files known),
      units-read files known units readings (spent + length reading.pp.tokens) are.1 then,
      ap (λ (n : ℕ). ending (Ok (reading ∷ readings)) n known) count,
    )

pub project-read : (files : Files) (known : Loaded) (units : List Source) (readings : List Reading) → AreCurrent known files units readings → KeepsLimits readings
    → ReadsProject files units known (ending (Ok readings) (length units) known)
project-read files known units readings are limits =
    let within = limits.tokens in
    let few : 0 + token_count readings ≤ most_project_tokens = omega (arith, within) in (Ok readings, units-read files known units readings 0 are few, inl (limits.definitions, refl))
