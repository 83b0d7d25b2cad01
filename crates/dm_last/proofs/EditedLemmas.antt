-- A project behind its edits: each unit has the reading that the loader gives, and a name that isn't that of an edited file has the file
-- that it had at first.
--     judged-to      so it is behind all edits
use Rattle.std.proofs.Common.{◌≡◌, ◌≢◌, ◌⊎◌, inl, inr, ℕ, ◌<◌, Bool, true, false, ◌||◌, List, [], ◌∷◌, ◌++◌, length, get_or, Option, Some, None, Result, Ok, Err, eqb, refl, sym, ap, ◌∙◌, subst, arith, length-append}
use Rattle.std.proofs.lemmas.Bool.{cases_eq}
use Rattle.std.proofs.lemmas.Bool.Decides.{eqb_tells}
use Rattle.std.proofs.lemmas.List.{append-nil, get_or_append_left}
use Rattle.dm_token.specs.declared.stop.Stop.{Stop}
use Rattle.dm_token.specs.declared.expansion.Definition.{Definition}
use Rattle.dm_token.specs.declared.unit.Unit.{Unit as Source}
use Rattle.dm_io.specs.Files.{Files, file_at}
use Rattle.dm_search.specs.CallFiles.{file_for, known_or}
use Rattle.dm_search.specs.Fresh.{fresh}
use Rattle.dm_search.specs.Loaded.{Loaded, name_of, number_of, is_held, is_absent, with_bytes}
use Rattle.dm_unit.proofs.GrowLemmas.{held-other}
use Rattle.dm_unit.proofs.NameLemmas.{name-at, held-among}
use Rattle.dm_reading.specs.declared.reading.Reading.{Reading}
use Rattle.dm_edit.specs.declared.change.As.{As}
use Rattle.dm_edit.specs.declared.change.Change.{Change}
use Rattle.dm_edit.specs.declared.plan.Entry.{Entry}
use Rattle.dm_edit.specs.declared.plan.Fate.TheVariants.{Rewritten}
use Rattle.dm_local.specs.Kept.{IsOfLoader}
use Rattle.dm_readings.specs.Again.{IsReadAgain, put_in}
use Rattle.dm_readings.specs.Leaves.{Follows}
use Rattle.dm_kept.specs.Current.{AreCurrent, put_back}
use Rattle.dm_judge.specs.declared.proposal.Proposal.{Proposal}
use Rattle.dm_judge.specs.declared.proposal.Proposal.TheVariants as proposal
use Rattle.dm_subjects.specs.Files.{is_edited}
use Rattle.dm_subjects.specs.declared.subject.Subject.{Subject}
use Rattle.dm_planning.specs.Judging.{Project, Rereads, EndsBy, Edits, JudgesBy, JudgesFound, JudgesAll, entry_with, file_of, found_in, restored, rewritten}
use Rattle.dm_planning.proofs.EditLemmas.{held-where-lies}
use Rattle.dm_planning.proofs.LeaveLemmas.{inside}

-- ---- names of edited files

abbrev pub IsOfEdited : List Entry → Loaded → List ℕ → Type 0
IsOfEdited entries loaded name = (file : ℕ) × (file < length loaded.names) × (name_of loaded file ≡ name) × (is_edited entries file ≡ true)

or-right : (one other : Bool) → other ≡ true → (one || other) ≡ true
or-right true other is = refl
or-right false other is = is

-- names that were there keep their numbers
name-stays : (old new : Loaded) (more : List (List ℕ)) → new.names ≡ old.names ++ more → (file : ℕ) → file < length old.names → name_of new file ≡ name_of old file
name-stays old new more begins file within = ap (λ (names : List (List ℕ)). get_or names file []) begins ∙ get_or_append_left old.names more [] file within

more-names : (old new : Loaded) (more : List (List ℕ)) → new.names ≡ old.names ++ more → (file : ℕ) → file < length old.names → file < length new.names
more-names old new more begins file within = let longer = ap length begins in let size = length-append old.names more in omega (arith, longer, size, within)

edited-later : (entry : Entry) (entries : List Entry) (old new : Loaded) (more : List (List ℕ)) → new.names ≡ old.names ++ more → (name : List ℕ) → IsOfEdited entries old name → IsOfEdited (entry ∷ entries) new name
edited-later entry entries old new more begins name (file, within, named, edited) =
    (file, more-names old new more begins file within, name-stays old new more begins file within ∙ named, or-right _ (is_edited entries file) edited)

-- a number is that of its file
tested-same : (file : ℕ) → eqb file file ≡ true
tested-same file = by (eqb_tells file file)
  where
    by : ((eqb file file ≡ true) × (file ≡ file)) ⊎ ((eqb file file ≡ false) × (file ≢ file)) → eqb file file ≡ true
    by (inl same) = same.0
    by (inr apart) = absurd (apart.1 refl)

edited-here : (definition : Definition) (kind : As) (entry : Entry) (entries : List Entry) → entry ≡ entry_with definition (Rewritten kind) → is_edited (entry ∷ entries) definition.place.file ≡ true
edited-here definition kind entry entries is =
    ap (λ (it : Entry). is_edited (it ∷ entries) definition.place.file) is ∙ ap (λ (b : Bool). b || is_edited entries definition.place.file) (tested-same definition.place.file)

module _ (files : Files) (units : List Source) where
  pub record IsEditedTo (entries : List Entry) (now : Project) : Type 0 where
    pub loader : IsOfLoader now.loaded
    pub current : AreCurrent now.loaded files units now.readings
    pub served : (name : List ℕ) → IsOfEdited entries now.loaded name ⊎ (file_for now.loaded files name ≡ file_for fresh files name)

  -- where nothing is done
  same : (entry : Entry) (entries : List Entry) (before after : Project) → after ≡ before → IsEditedTo entries before → IsEditedTo (entry ∷ entries) after
  same entry entries before after is to =
      subst (λ (it : Project). IsEditedTo (entry ∷ entries) it) (sym is) (record { loader = to.loader; current = to.current; served = λ name. by name (to.served name) })
    where
      by : (name : List ℕ) → IsOfEdited entries before.loaded name ⊎ (file_for before.loaded files name ≡ file_for fresh files name)
          → IsOfEdited (entry ∷ entries) before.loaded name ⊎ (file_for before.loaded files name ≡ file_for fresh files name)
      by name (inl edited) = inl (edited-later entry entries before.loaded before.loaded [] (sym (append-nil before.loaded.names)) name edited)
      by name (inr served) = inr served

  module _
      (again : (file : ℕ) (bytes : List ℕ) (kept : List Reading) (news : List (Option Reading)) (known new : Loaded) → IsOfLoader known → is_held known file ≡ true → AreCurrent known files units kept
      → IsReadAgain files file units kept (with_bytes known file bytes) (Ok news) new → IsOfLoader new × AreCurrent new files units (put_in kept news))
      (back : (file : ℕ) (bytes : List ℕ) (kept : List Reading) (known new : Loaded) → IsOfLoader known → is_held known file ≡ true → AreCurrent known files units kept
      → Follows files (with_bytes known file bytes) new → IsOfLoader new
      → IsOfLoader (put_back known file new) × AreCurrent (put_back known file new) files units kept × Follows files known (put_back known file new)) where
    module _ (entry : Entry) (entries : List Entry) (before : Project) (to : IsEditedTo entries before) (change : Change) (edited : List ℕ) (held : is_held before.loaded (file_of change) ≡ true)
        (known : Loaded) (follows : Follows files (with_bytes before.loaded (file_of change) edited) known) (of : IsOfLoader known) where
      abbrev file : ℕ
      file = file_of change

      -- the old bytes are put back
      taken-back : IsEditedTo (entry ∷ entries) (restored change before known)
      taken-back = record { loader = put.0; current = put.1; served = λ name. by name (to.served name) }
        where
          put : IsOfLoader (put_back before.loaded file known) × AreCurrent (put_back before.loaded file known) files units before.readings × Follows files before.loaded (put_back before.loaded file known)
          put = back file edited before.readings before.loaded known to.loader held to.current follows of

          by : (name : List ℕ) → IsOfEdited entries before.loaded name ⊎ (file_for before.loaded files name ≡ file_for fresh files name)
              → IsOfEdited (entry ∷ entries) (put_back before.loaded file known) name ⊎ (file_for (put_back before.loaded file known) files name ≡ file_for fresh files name)
          by name (inl was) = inl (edited-later entry entries before.loaded (put_back before.loaded file known) put.2.knows.begins.0 put.2.knows.begins.1 name was)
          by name (inr served) = inr (put.2.served name ∙ served)

      -- the edit stands
      stands : (news : List (Option Reading)) → IsReadAgain files file units before.readings (with_bytes before.loaded file edited) (Ok news) known
          → entry ≡ entry_with change.definition (Rewritten change.kind) → IsEditedTo (entry ∷ entries) (rewritten change before known news)
      stands news reads is = record { loader = now.0; current = now.1; served = λ name. by name (cases_eq (number_of before.loaded name) file) (to.served name) }
        where
          now : IsOfLoader known × AreCurrent known files units (put_in before.readings news)
          now = again file edited before.readings news before.loaded known to.loader held to.current reads

          within : file < length before.loaded.names
          within = subst (λ n. file < n) to.loader.1 (inside before.loaded file held)

          by : (name : List ℕ) → (number_of before.loaded name ≡ file) ⊎ (number_of before.loaded name ≡ file → ⊥)
              → IsOfEdited entries before.loaded name ⊎ (file_for before.loaded files name ≡ file_for fresh files name)
              → IsOfEdited (entry ∷ entries) known name ⊎ (file_for known files name ≡ file_for fresh files name)
          by name (inl this) was =
              let among = held-among before.loaded name to.loader.1 (ap (is_held before.loaded) this ∙ held) in
              let named = sym (ap (name_of before.loaded) this) ∙ name-at name before.loaded.names among in
              inl (
                file,
                more-names before.loaded known follows.knows.begins.0 follows.knows.begins.1 file within,
                name-stays before.loaded known follows.knows.begins.0 follows.knows.begins.1 file within ∙ named,
                edited-here change.definition change.kind entry entries is,
              )
          by name (inr apart) (inl was) = inl (edited-later entry entries before.loaded known follows.knows.begins.0 follows.knows.begins.1 name was)
          by name (inr apart) (inr served) =
              inr (follows.served name
              ∙ (ap (λ (o : Option (List ℕ)). known_or o (is_absent before.loaded name) (file_at files name)) (held-other before.loaded file (number_of before.loaded name) edited apart) ∙ served))

    ends-to : (entry : Entry) (entries : List Entry) (before after : Project) (change : Change) (edited : List ℕ) → is_held before.loaded (file_of change) ≡ true
        → (result : Result (List (Option Reading)) Stop) (known : Loaded) → IsEditedTo entries before
        → Rereads (Some files) (file_of change) units before.readings (with_bytes before.loaded (file_of change) edited) result known → EndsBy change before result known entry after → IsEditedTo (entry ∷ entries) after
    ends-to entry entries before after change edited held result known to rereads ends = by result rereads ends
      where
        follows : Follows files (with_bytes before.loaded (file_of change) edited) known
        follows = record { knows = rereads.0; served = rereads.2 files refl }

        of : IsOfLoader known
        of = (rereads.3.headers, rereads.3.slots)

        by : (given : Result (List (Option Reading)) Stop) → Rereads (Some files) (file_of change) units before.readings (with_bytes before.loaded (file_of change) edited) given known
            → EndsBy change before given known entry after → IsEditedTo (entry ∷ entries) after
        by (Err stop) read end = subst (λ (it : Project). IsEditedTo (entry ∷ entries) it) (sym end.1.1) (taken-back entry entries before to change edited held known follows of)
        by (Ok news) read (inl end) =
            subst (λ (it : Project). IsEditedTo (entry ∷ entries) it) (sym end.1.1) (stands entry entries before to change edited held known follows of news (read.1 files refl) end.1.0)
        by (Ok news) read (inr end) = subst (λ (it : Project). IsEditedTo (entry ∷ entries) it) (sym end.1.1) (taken-back entry entries before to change edited held known follows of)

    edits-to : (entry : Entry) (entries : List Entry) (before after : Project) (change : Change) → IsEditedTo entries before → Edits (Some files) units before change entry after → IsEditedTo (entry ∷ entries) after
    edits-to entry entries before after change to (inl cannot) = same entry entries before after cannot.1.1 to
    edits-to entry entries before after change to (inr (edited, first, is, inl refused)) = same entry entries before after refused.3.1 to
    edits-to entry entries before after change to (inr (edited, first, is, inr (readable, result, known, rereads, ends))) =
        ends-to entry entries before after change edited (held-where-lies before.loaded (file_of change) change.definition (is.0, is.1)) result known to rereads ends

    judges-to : (entry : Entry) (entries : List Entry) (before after : Project) (definition : Definition) (answer : Proposal) → IsEditedTo entries before
        → JudgesBy (Some files) units before definition answer entry after → IsEditedTo (entry ∷ entries) after
    judges-to entry entries before after definition (proposal.Broken rule place) to h = same entry entries before after h.1 to
    judges-to entry entries before after definition (proposal.Change change) to h = edits-to entry entries before after change to h

    found-to : (entry : Entry) (entries : List Entry) (before after : Project) (subject : Subject) (found : Option Definition) → IsEditedTo entries before
        → JudgesFound (Some files) units before subject found entry after → IsEditedTo (entry ∷ entries) after
    found-to entry entries before after subject None to h = same entry entries before after h.1 to
    found-to entry entries before after subject (Some definition) to h = judges-to entry entries before after definition h.0 to h.2

    pub judged-to : (first last : Project) (subjects : List Subject) (entries : List Entry) → IsEditedTo [] first → JudgesAll (Some files) units first subjects entries last → IsEditedTo entries last
    judged-to first last [] entries to h =
        subst (λ (these : List Entry). IsEditedTo these last) (sym h.0) (subst (λ (it : Project). IsEditedTo [] it) (sym h.1) to)
    judged-to first last (subject ∷ subjects) entries to h =
        subst (λ (these : List Entry). IsEditedTo these last) (sym h.5)
        (found-to h.3 h.0 h.1 last subject (found_in h.1 subject) (judged-to first h.1 subjects h.0 to h.2) h.4)
