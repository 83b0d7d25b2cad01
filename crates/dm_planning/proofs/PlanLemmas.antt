-- The files of a plan: each is one of the folder, and their names differ.
use Rattle.std.proofs.Common.{◌≡◌, ◌≢◌, ◌⊎◌, inl, inr, ℕ, zero, suc, ◌+◌, ◌<◌, ◌≤◌, Bool, true, false, ◌&&◌, ◌||◌, cond, List, [], ◌∷◌, length, map, nat_eq, All, Option, Some, None, Result, Ok, Err, refl, sym, ap, ◌∙◌, subst, arith, bytes_eq, IsPermutation}
use Rattle.std.specs.List.{AllByRecursion, IsDistinct, filter, range_with_len}
use Rattle.std.proofs.lemmas.Bool.{false≢true}
use Rattle.std.proofs.lemmas.List.Elements.{All-nil, All-cons, All-head, All-tail}
use Rattle.std.proofs.lemmas.Map.Keys.{IsDistinct-cons, IsDistinct-IsPermutation}
use Rattle.std.proofs.lemmas.List.Sorted.{IsPermutation-map, All-permutation}
use Rattle.std.proofs.lemmas.Cmp.{nat_list_eq_equiv}
use Rattle.std.proofs.lemmas.Slice.Eq.{bytes_eq-Decides}
use Rattle.std.proofs.lemmas.Bool.Decides.{eqb_tells}
use Rattle.dm_token.specs.Limits.{header_count}
use Rattle.dm_token.specs.declared.stop.Stop.{Stop}
use Rattle.dm_token.specs.declared.expansion.Definition.{Definition}
use Rattle.dm_token.specs.declared.unit.Unit.{Unit as Source}
use Rattle.dm_io.specs.Files.{Files, HasFile}
use Rattle.dm_search.specs.Loaded.{Loaded, is_held, name_of, number_of, with_bytes}
use Rattle.dm_reading.specs.declared.reading.Reading.{Reading}
use Rattle.dm_edit.specs.declared.change.Change.{Change}
use Rattle.dm_edit.specs.declared.plan.Changed.{Changed}
use Rattle.dm_edit.specs.declared.plan.Entry.{Entry}
use Rattle.dm_edit.specs.Edits.{IsEdited}
use Rattle.dm_judge.specs.declared.proposal.Proposal.{Proposal}
use Rattle.dm_judge.specs.declared.proposal.Proposal.TheVariants as proposal
use Rattle.dm_readings.specs.Leaves.{AreThere, StaysKnown}
use Rattle.dm_subjects.specs.Files.{changed_file, edited_files, is_edited, is_rewritten}
use Rattle.dm_subjects.specs.Subjects.{bytes_at}
use Rattle.dm_subjects.specs.declared.subject.Subject.{Subject}
use Rattle.dm_planning.specs.Judging.{Edits, EndsBy, HoldsEdited, JudgesAll, JudgesBy, JudgesFound, Project, file_of, found_in, restored}
use Rattle.dm_planning.proofs.EditLemmas.{held-where-lies}
use Rattle.dm_planning.proofs.LeaveLemmas.{known-held, replaced-held}

-- ---- rewritten definitions

-- the file of a rewritten definition is held, and is no built-in header
abbrev pub IsWritable : Loaded → Entry → Type 0
IsWritable loaded entry =
    is_rewritten entry.outcome ≡ true → (header_count ≤ entry.definition.place.file) × (is_held loaded entry.definition.place.file ≡ true)

module _ (told : Option Files) (units : List Source) (before after : Project) (change : Change) (entry : Entry) where
  abbrev edited_file : ℕ
  edited_file = file_of change

  held-lies : (edited : List ℕ) → IsEdited (bytes_at before.loaded edited_file) change edited → is_held before.loaded edited_file ≡ true
  held-lies edited is = held-where-lies before.loaded edited_file change.definition (is.0, is.1)

  module _ (other : ℕ) (held : is_held before.loaded other ≡ true) where
    module _ (edited : List ℕ) (was : is_held before.loaded edited_file ≡ true) (known : Loaded) (knows : StaysKnown (with_bytes before.loaded edited_file edited) known) where
      at-known : (one : ℕ) → is_held before.loaded one ≡ true → is_held known one ≡ true
      at-known one is = known-held (with_bytes before.loaded edited_file edited) known knows one (replaced-held before.loaded edited_file edited was one is)

      back : after ≡ restored change before known → is_held after.loaded other ≡ true
      back is = ap (λ (one : Project). is_held one.loaded other) is ∙ replaced-held known edited_file (bytes_at before.loaded edited_file) (at-known edited_file was) other (at-known other held)

      still-by : (result : Result (List (Option Reading)) Stop) → EndsBy change before result known entry after → is_held after.loaded other ≡ true
      still-by (Err stop) ends = back ends.1.1
      still-by (Ok news) (inl stands) = ap (λ (one : Project). is_held one.loaded other) stands.1.1 ∙ at-known other held
      still-by (Ok news) (inr fails) = back fails.1.1

    pub still-held : Edits told units before change entry after → is_held after.loaded other ≡ true
    still-held (inl kept) = ap (λ (one : Project). is_held one.loaded other) kept.1.1 ∙ held
    still-held (inr (edited, numbered, is, inl refused)) = ap (λ (one : Project). is_held one.loaded other) refused.3.1 ∙ held
    still-held (inr (edited, numbered, is, inr readable)) = still-by edited (held-lies edited is) readable.2 readable.3.0 readable.1 readable.4

  -- the definition of the outcome
  of-change : (edited : List ℕ) → HoldsEdited told units before change edited entry after → entry.definition ≡ change.definition
  of-change edited (inl refused) = ap (λ (one : Entry). one.definition) refused.3.0
  of-change edited (inr readable) = by readable.1 readable.2 readable.4
    where
      by : (result : Result (List (Option Reading)) Stop) (known : Loaded) → EndsBy change before result known entry after → entry.definition ≡ change.definition
      by (Err stop) known ends = ap (λ (one : Entry). one.definition) ends.1.0
      by (Ok news) known (inl stands) = ap (λ (one : Entry). one.definition) stands.1.0
      by (Ok news) known (inr fails) = ap (λ (one : Entry). one.definition) fails.1.0

  pub written : Edits told units before change entry after → IsWritable after.loaded entry
  written (inl kept) = λ rewritten. absurd (false≢true (sym (ap (λ (one : Entry). is_rewritten one.outcome) kept.1.0) ∙ rewritten))
  written (inr (edited, numbered, is, holds)) = λ rewritten.
      subst (λ (one : Definition). (header_count ≤ one.place.file) × (is_held after.loaded one.place.file ≡ true)) (sym (of-change edited holds))
      (numbered, still-held edited_file (held-lies edited is) (inr (edited, numbered, is, holds)))

module _ (told : Option Files) (units : List Source) where
  judged-held : (before after : Project) (definition : Definition) (answer : Proposal) (entry : Entry) → JudgesBy told units before definition answer entry after → (other : ℕ) → is_held before.loaded other ≡ true
      → is_held after.loaded other ≡ true
  judged-held before after definition (proposal.Broken rule place) entry judges other held = ap (λ (one : Project). is_held one.loaded other) judges.1 ∙ held
  judged-held before after definition (proposal.Change change) entry judges other held = still-held told units before after change entry other held judges

  judged-written : (before after : Project) (definition : Definition) (answer : Proposal) (entry : Entry) → JudgesBy told units before definition answer entry after → IsWritable after.loaded entry
  judged-written before after definition (proposal.Broken rule place) entry judges =
      λ rewritten. absurd (false≢true (sym (ap (λ (one : Entry). is_rewritten one.outcome) judges.0) ∙ rewritten))
  judged-written before after definition (proposal.Change change) entry judges = written told units before after change entry judges

  found-held : (before after : Project) (subject : Subject) (found : Option Definition) (entry : Entry) → JudgesFound told units before subject found entry after → (other : ℕ) → is_held before.loaded other ≡ true
      → is_held after.loaded other ≡ true
  found-held before after subject None entry judges other held = ap (λ (one : Project). is_held one.loaded other) judges.1 ∙ held
  found-held before after subject (Some definition) entry judges other held = judged-held before after definition judges.0 entry judges.2 other held

  found-written : (before after : Project) (subject : Subject) (found : Option Definition) (entry : Entry) → JudgesFound told units before subject found entry after → IsWritable after.loaded entry
  found-written before after subject None entry judges =
      λ rewritten. absurd (false≢true (sym (ap (λ (one : Entry). is_rewritten one.outcome) judges.0) ∙ rewritten))
  found-written before after subject (Some definition) entry judges = judged-written before after definition judges.0 entry judges.2

  later-written : (old new : Loaded) → ((other : ℕ) → is_held old other ≡ true → is_held new other ≡ true) → (entries : List Entry) → All (IsWritable old) entries → All (IsWritable new) entries
  later-written old new held [] are = All-nil (IsWritable new)
  later-written old new held (entry ∷ entries) are =
      All-cons (IsWritable new) entry entries
      (λ rewritten. let was = All-head (IsWritable old) entry entries are rewritten in (was.0, held entry.definition.place.file was.1))
      (later-written old new held entries (All-tail (IsWritable old) entry entries are))

  pub all-written : (first last : Project) (subjects : List Subject) (entries : List Entry) → JudgesAll told units first subjects entries last → All (IsWritable last.loaded) entries
  all-written first last [] entries judges = subst (All (IsWritable last.loaded)) (sym judges.0) (All-nil (IsWritable last.loaded))
  all-written first last (subject ∷ subjects) entries judges =
      let others = judges.0 in
      let middle = judges.1 in
      let entry = judges.3 in
      let one = judges.4 in
      subst (All (IsWritable last.loaded)) (sym judges.5)
      (All-cons (IsWritable last.loaded) entry others
      (found-written middle last subject (found_in middle subject) entry one)
      (later-written middle.loaded last.loaded (found-held middle last subject (found_in middle subject) entry one) others
      (all-written first middle subjects others judges.2)))

-- ---- the files

-- both tests give true
both : (a b : Bool) → (a && b) ≡ true → (a ≡ true) × (b ≡ true)
both true b is = (refl, is)
both false b is = absurd (false≢true is)

module _ (told : Option Files) (loaded : Loaded) (there : AreThere told loaded) where
  edited-there : (entries : List Entry) → All (IsWritable loaded) entries → (file : ℕ) → is_edited entries file ≡ true → HasFile told (name_of loaded file)
  edited-there [] are file edited = absurd (false≢true edited)
  edited-there (entry ∷ entries) are file edited =
      by (is_rewritten entry.outcome && nat_eq entry.definition.place.file file) refl (edited-there entries (All-tail (IsWritable loaded) entry entries are) file)
    where
      of-this : (is_rewritten entry.outcome ≡ true) × (nat_eq entry.definition.place.file file ≡ true)
          → ((nat_eq entry.definition.place.file file ≡ true) × (entry.definition.place.file ≡ file)) ⊎ ((nat_eq entry.definition.place.file file ≡ false) × (entry.definition.place.file ≢ file))
          → HasFile told (name_of loaded file)
      of-this tests (inl same) =
          let was = All-head (IsWritable loaded) entry entries are tests.0 in
          subst (λ n. HasFile told (name_of loaded n)) same.1 (there entry.definition.place.file was.0 was.1)
      of-this tests (inr apart) = absurd (false≢true (sym apart.0 ∙ tests.1))

      by : (b : Bool) → (is_rewritten entry.outcome && nat_eq entry.definition.place.file file) ≡ b → (is_edited entries file ≡ true → HasFile told (name_of loaded file)) → HasFile told (name_of loaded file)
      by true e others = of-this (both (is_rewritten entry.outcome) (nat_eq entry.definition.place.file file) e) (eqb_tells entry.definition.place.file file)
      by false e others = others (sym (ap (λ b. b || is_edited entries file) e) ∙ edited)

  abbrev IsFile : Changed → Type 0
  IsFile one = HasFile told one.name

  files-there : (entries : List Entry) → All (IsWritable loaded) entries → (files : List ℕ) → All IsFile (map (changed_file loaded) (filter (is_edited entries) files))
  files-there entries are [] = All-nil IsFile
  files-there entries are (file ∷ files) = by (is_edited entries file) refl (files-there entries are files)
    where
      by : (b : Bool) → is_edited entries file ≡ b → All IsFile (map (changed_file loaded) (filter (is_edited entries) files))
          → All IsFile (map (changed_file loaded) (cond (is_edited entries file) (file ∷ filter (is_edited entries) files) (filter (is_edited entries) files)))
      by true e rest =
          subst (λ b. All IsFile (map (changed_file loaded) (cond b (file ∷ filter (is_edited entries) files) (filter (is_edited entries) files)))) (sym e)
          (All-cons IsFile (changed_file loaded file) (map (changed_file loaded) (filter (is_edited entries) files)) (edited-there entries are file e) rest)
      by false e rest = subst (λ b. All IsFile (map (changed_file loaded) (cond b (file ∷ filter (is_edited entries) files) (filter (is_edited entries) files)))) (sym e) rest

  pub plan-there : (entries : List Entry) (files : List Changed) → All (IsWritable loaded) entries → IsPermutation (map (changed_file loaded) (edited_files loaded entries)) files
      → All (λ (one : Changed). HasFile told one.name) files
  plan-there entries files are same =
      All-permutation (λ (one : Changed). HasFile told one.name) (map (changed_file loaded) (edited_files loaded entries)) files same
      (files-there entries are (range_with_len 0 (length loaded.names)))

-- ---- their names

module _ (loaded : Loaded) (differ : (file : ℕ) → file < length loaded.names → number_of loaded (name_of loaded file) ≡ file) where
  apart : (one other : ℕ) → one < other → other < length loaded.names → bytes_eq (name_of loaded one) (name_of loaded other) ≡ false
  apart one other less inside = by (bytes_eq (name_of loaded one) (name_of loaded other)) refl
    where
      never : name_of loaded one ≡ name_of loaded other → ⊥
      never same =
          let numbers : one ≡ other = sym (differ one (omega (arith, less, inside))) ∙ ap (number_of loaded) same ∙ differ other inside in
          omega (arith, numbers, less)

      by : (b : Bool) → bytes_eq (name_of loaded one) (name_of loaded other) ≡ b → b ≡ false
      by false e = refl
      by true e = absurd (never ((bytes_eq-Decides (name_of loaded one) (name_of loaded other)).0 e))

  module _ (entries : List Entry) where
    abbrev chosen : List ℕ → List (List ℕ)
    chosen files = map (name_of loaded) (filter (is_edited entries) files)

    all-apart : (one from count : ℕ) → one < from → from + count ≤ length loaded.names → AllByRecursion (λ name. bytes_eq (name_of loaded one) name ≡ false) (chosen (range_with_len from count))
    all-apart one from zero less inside = tt
    all-apart one from (suc count) less inside =
        by (is_edited entries from) (all-apart one (from + 1) count (omega (arith, less)) (omega (arith, inside)))
      where
        by : (b : Bool) → AllByRecursion (λ name. bytes_eq (name_of loaded one) name ≡ false) (chosen (range_with_len (from + 1) count))
            → AllByRecursion (λ name. bytes_eq (name_of loaded one) name ≡ false)
            (map (name_of loaded) (cond b (from ∷ filter (is_edited entries) (range_with_len (from + 1) count)) (filter (is_edited entries) (range_with_len (from + 1) count))))
        by true rest = (apart one from less (omega (arith, inside)), rest)
        by false rest = rest

    abbrev others-from : ℕ → ℕ → List ℕ
    others-from from count = filter (is_edited entries) (range_with_len (from + 1) count)

    names-differ : (from count : ℕ) → from + count ≤ length loaded.names → IsDistinct bytes_eq (chosen (range_with_len from count))
    unfolding IsDistinct
    names-differ from zero inside = tt
    names-differ from (suc count) inside = by (is_edited entries from) (names-differ (from + 1) count (omega (arith, inside)))
      where
        by : (b : Bool) → IsDistinct bytes_eq (map (name_of loaded) (others-from from count))
            → IsDistinct bytes_eq (map (name_of loaded) (cond b (from ∷ others-from from count) (others-from from count)))
        by true rest = IsDistinct-cons bytes_eq (name_of loaded from) (map (name_of loaded) (others-from from count)) (all-apart from (from + 1) count (omega arith) (omega (arith, inside))) rest
        by false rest = rest

    names-of : (files : List ℕ) → map (λ (one : Changed). one.name) (map (changed_file loaded) files) ≡ map (name_of loaded) files
    names-of [] = refl
    names-of (file ∷ files) = ap (λ rest. name_of loaded file ∷ rest) (names-of files)

    pub plan-distinct : (files : List Changed) → IsPermutation (map (changed_file loaded) (edited_files loaded entries)) files → IsDistinct bytes_eq (map (λ (one : Changed). one.name) files)
    plan-distinct files same =
        IsDistinct-IsPermutation bytes_eq nat_list_eq_equiv.symm (map (λ (one : Changed). one.name) (map (changed_file loaded) (edited_files loaded entries))) (map (λ (one : Changed). one.name) files)
        (IsPermutation-map (λ (one : Changed). one.name) (map (changed_file loaded) (edited_files loaded entries)) files same)
        (subst (IsDistinct bytes_eq) (sym (names-of (edited_files loaded entries))) (names-differ 0 (length loaded.names) (omega arith)))
