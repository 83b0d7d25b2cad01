-- What the edit of a definition leaves.
use Rattle.std.proofs.Common.{◌≡◌, ◌≢◌, ℕ, ◌+◌, ◌<◌, ◌≤◌, ◌⊎◌, inl, inr, Bool, true, false, List, [], ◌∷◌, ◌++◌, length, Option, Some, None, Result, Ok, Err, refl, sym, ap, ◌∙◌, subst, arith, length-append}
use Rattle.std.specs.Prelude.{is_some, unwrap_or}
use Rattle.std.proofs.lemmas.Bool.{false≢true, cases_lt}
use Rattle.std.proofs.lemmas.List.{get_or_past, get_or-set_same, get_or-set_other}
use Rattle.dm_token.specs.declared.stop.Stop.{Stop}
use Rattle.dm_token.specs.declared.expansion.Definition.{Definition}
use Rattle.dm_token.specs.declared.unit.Unit.{Unit as Source}
use Rattle.dm_io.specs.Files.{Files}
use Rattle.dm_search.specs.Loaded.{Loaded, held_at, is_held, with_bytes}
use Rattle.dm_reading.specs.declared.reading.Reading.{Reading}
use Rattle.dm_edit.specs.declared.change.Change.{Change}
use Rattle.dm_edit.specs.declared.plan.Entry.{Entry}
use Rattle.dm_edit.specs.declared.plan.Fate.TheVariants.{Kept, Rewritten}
use Rattle.dm_edit.specs.Cuts.{BeginsVisibly, LiesIn}
use Rattle.dm_edit.specs.Edits.{IsEdited}
use Rattle.dm_edit.proofs.CutLemmas.{joined-body, through_body-directive}
use Rattle.dm_readings.specs.Again.{reader_count}
use Rattle.dm_readings.specs.Leaves.{StaysKnown}
use Rattle.dm_subjects.specs.declared.subject.Subject.{Subject}
use Rattle.dm_subjects.specs.Subjects.{bytes_at}
use Rattle.dm_planning.specs.Judging.{Project, EndsBy, Edits, JudgesAll, file_of, reread_rule, restored}

-- ---- what is held

-- a text that begins visibly isn't empty
some-length : (body : List ℕ) → BeginsVisibly body → 0 < length body
some-length [] begins = absurd begins
some-length (byte ∷ body) begins = omega arith

-- nothing lies in no bytes
lies-in-none : (definition : Definition) → LiesIn [] definition → ⊥
lies-in-none definition lies =
    let cut = lies.0 in
    let whole = ap length (lies.1.whole ∙ (joined-body cut ∙ ap (λ (text : List ℕ). text ++ cut.rest) (through_body-directive cut))) in
    let outer = length-append ((cut.front ++ cut.directive) ++ (cut.blanks ++ cut.body)) cut.rest in
    let inner = length-append (cut.front ++ cut.directive) (cut.blanks ++ cut.body) in
    let body = length-append cut.blanks cut.body in
    let some = some-length cut.body lies.1.begins in
    omega (arith, whole, outer, inner, body, some)

-- where nothing is held
nothing-held : (loaded : Loaded) (file : ℕ) → is_held loaded file ≡ false → held_at loaded file ≡ None
nothing-held loaded file is = by (held_at loaded file) refl
  where
    by : (held : Option (List ℕ)) → held_at loaded file ≡ held → held_at loaded file ≡ None
    by None e = e
    by (Some bytes) e = absurd (false≢true (sym is ∙ ap is_some e))

no-bytes : (loaded : Loaded) (file : ℕ) → is_held loaded file ≡ false → bytes_at loaded file ≡ []
no-bytes loaded file is = ap (λ (held : Option (List ℕ)). unwrap_or held []) (nothing-held loaded file is)

-- the bytes of a file that is held
pub bytes-held : (loaded : Loaded) (file : ℕ) → is_held loaded file ≡ true → held_at loaded file ≡ Some (bytes_at loaded file)
bytes-held loaded file is = by (held_at loaded file) refl
  where
    by : (held : Option (List ℕ)) → held_at loaded file ≡ held → held_at loaded file ≡ Some (bytes_at loaded file)
    by None e = absurd (false≢true (sym (ap is_some e) ∙ is))
    by (Some bytes) e = e ∙ ap Some (sym (ap (λ (held : Option (List ℕ)). unwrap_or held []) e))

-- a file in which a definition lies is held
pub held-where-lies : (loaded : Loaded) (file : ℕ) (definition : Definition) → LiesIn (bytes_at loaded file) definition → is_held loaded file ≡ true
held-where-lies loaded file definition lies = by (is_held loaded file) refl
  where
    by : (b : Bool) → is_held loaded file ≡ b → is_held loaded file ≡ true
    by true e = e
    by false e = absurd (lies-in-none definition (subst (λ (bytes : List ℕ). LiesIn bytes definition) (no-bytes loaded file e) lies))

-- what is held has a number
inside : (loaded : Loaded) (file : ℕ) → is_held loaded file ≡ true → file < length loaded.held
inside loaded file is = by (cases_lt file (length loaded.held))
  where
    by : (file < length loaded.held) ⊎ (length loaded.held ≤ file) → file < length loaded.held
    by (inl less) = less
    by (inr past) = absurd (false≢true (sym (ap is_some (get_or_past loaded.held file None past)) ∙ is))

-- new bytes are held
held-new : (loaded : Loaded) (file : ℕ) (bytes : List ℕ) → is_held loaded file ≡ true → held_at (with_bytes loaded file bytes) file ≡ Some bytes
held-new loaded file bytes is = get_or-set_same loaded.held file (Some bytes) None (inside loaded file is)

held-other : (loaded : Loaded) (file other : ℕ) (bytes : List ℕ) → other ≢ file → held_at (with_bytes loaded file bytes) other ≡ held_at loaded other
held-other loaded file other bytes apart = get_or-set_other loaded.held file other (Some bytes) None apart

-- ---- the list of outcomes

pub one-outcome : (told : Option Files) (units : List Source) (first last : Project) (subjects : List Subject) (entries : List Entry)
    → JudgesAll told units first subjects entries last → length entries ≡ length subjects
one-outcome told units first last [] entries judges = ap length judges.0
one-outcome told units first last (subject ∷ subjects) entries judges =
    let others = judges.0 in
    let middle = judges.1 in
    let rest = one-outcome told units first middle subjects others judges.2 in
    let all = ap length judges.5 in
    omega (arith, rest, all)

-- ---- an edit

module _ (told : Option Files) (units : List Source) (before after : Project) (change : Change) (entry : Entry) where
  abbrev file : ℕ
  file = file_of change

  abbrev Costs : Type 0
  Costs = (after ≡ before) ⊎ (after.count ≡ before.count + reader_count file before.readings)

  costs-by : (result : Result (List (Option Reading)) Stop) (known : Loaded) → EndsBy change before result known entry after → Costs
  costs-by (Err stop) known ends = inr (ap (λ (one : Project). one.count) ends.1.1)
  costs-by (Ok news) known (inl stands) = inr (ap (λ (one : Project). one.count) stands.1.1)
  costs-by (Ok news) known (inr fails) = inr (ap (λ (one : Project). one.count) fails.1.1)

  pub costs : Edits told units before change entry after → Costs
  costs (inl kept) = inl kept.1.1
  costs (inr (edited, numbered, is, inl refused)) = inl refused.3.1
  costs (inr (edited, numbered, is, inr held)) = costs-by held.1 held.2 held.4

  -- what becomes of the file
  abbrev IsTaken : Type 0
  IsTaken = (entry.outcome ≡ Rewritten change.kind) × IsEdited (bytes_at before.loaded file) change (bytes_at after.loaded file)

  abbrev IsTakenBack : Type 0
  IsTakenBack = (entry.outcome ≡ Kept reread_rule change.definition.place) × (bytes_at after.loaded file ≡ bytes_at before.loaded file)

  module _ (edited : List ℕ) (is : IsEdited (bytes_at before.loaded file) change edited) where
    abbrev held_first : is_held before.loaded file ≡ true
    held_first = held-where-lies before.loaded file change.definition (is.0, is.1)

    module _ (known : Loaded) (stays : StaysKnown (with_bytes before.loaded file edited) known) where
      held-known : held_at known file ≡ Some edited
      held-known = stays.held_too file edited (held-new before.loaded file edited held_first)

      back : after ≡ restored change before known → bytes_at after.loaded file ≡ bytes_at before.loaded file
      back is_after =
          ap (λ (one : Project). bytes_at one.loaded file) is_after
          ∙ ap (λ (held : Option (List ℕ)). unwrap_or held []) (held-new known file (bytes_at before.loaded file) (ap is_some held-known))

      file-by : (result : Result (List (Option Reading)) Stop) → EndsBy change before result known entry after → IsTaken ⊎ IsTakenBack
      file-by (Err stop) ends = inr (ap (λ (one : Entry). one.outcome) ends.1.0, back ends.1.1)
      file-by (Ok news) (inl stands) =
          inl (
            ap (λ (one : Entry). one.outcome) stands.1.0,
            subst (λ (bytes : List ℕ). IsEdited (bytes_at before.loaded file) change bytes)
                (sym (ap (λ (one : Project). bytes_at one.loaded file) stands.1.1 ∙ ap (λ (held : Option (List ℕ)). unwrap_or held []) held-known)) is,
          )
      file-by (Ok news) (inr fails) = inr (ap (λ (one : Entry). one.outcome) fails.1.0, back fails.1.1)

      -- what becomes of another file
      module _ (other : ℕ) (bytes : List ℕ) (apart : other ≢ file) (held : held_at before.loaded other ≡ Some bytes) where
        other-known : held_at known other ≡ Some bytes
        other-known = stays.held_too other bytes (held-other before.loaded file other edited apart ∙ held)

        other-back : after ≡ restored change before known → held_at after.loaded other ≡ Some bytes
        other-back is_after =
            ap (λ (one : Project). held_at one.loaded other) is_after ∙ (held-other known file other (bytes_at before.loaded file) apart ∙ other-known)

        other-by : (result : Result (List (Option Reading)) Stop) → EndsBy change before result known entry after → held_at after.loaded other ≡ Some bytes
        other-by (Err stop) ends = other-back ends.1.1
        other-by (Ok news) (inl stands) = ap (λ (one : Project). held_at one.loaded other) stands.1.1 ∙ other-known
        other-by (Ok news) (inr fails) = other-back fails.1.1

  pub taken-or-back : Edits told units before change entry after → IsTaken ⊎ IsTakenBack
  taken-or-back (inl kept) = inr (ap (λ (one : Entry). one.outcome) kept.1.0, ap (λ (one : Project). bytes_at one.loaded file) kept.1.1)
  taken-or-back (inr (edited, numbered, is, inl refused)) =
      inr (ap (λ (one : Entry). one.outcome) refused.3.0, ap (λ (one : Project). bytes_at one.loaded file) refused.3.1)
  taken-or-back (inr (edited, numbered, is, inr held)) = file-by edited is held.2 held.3.0 held.1 held.4

  pub other-stays : Edits told units before change entry after → (other : ℕ) (bytes : List ℕ) → other ≢ file → held_at before.loaded other ≡ Some bytes
      → held_at after.loaded other ≡ Some bytes
  other-stays (inl kept) other bytes apart held = ap (λ (one : Project). held_at one.loaded other) kept.1.1 ∙ held
  other-stays (inr (edited, numbered, is, inl refused)) other bytes apart held = ap (λ (one : Project). held_at one.loaded other) refused.3.1 ∙ held
  other-stays (inr (edited, numbered, is, inr readable)) other bytes apart held =
      other-by edited is readable.2 readable.3.0 other bytes apart held readable.1 readable.4
