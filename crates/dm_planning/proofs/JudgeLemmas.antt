-- The steps of judging: which definition is next, and the readings that are put in.
use Rattle.std.proofs.Common.{◌≡◌, ℕ, suc, ◌+◌, ◌-◌, ◌<◌, List, [], ◌∷◌, ◌++◌, length, drop, get_or, set, reverse, map, All, Option, Some, None, IfSome, is_some, unwrap_or, refl, sym, ap, ◌∙◌, subst, arith, length-append}
use Rattle.std.proofs.lemmas.List.Elements.{All-nil, All-cons, All-head, All-tail}
use Rattle.std.proofs.lemmas.List.{at_drop_more, reverse-append}
use Rattle.dm_token.specs.declared.expansion.Definition.{Definition}
use Rattle.dm_token.specs.declared.place.Place.{Place}
use Rattle.dm_token.specs.declared.unit.Unit.{Unit as Source}
use Rattle.dm_io.specs.Files.{Files}
use Rattle.dm_reading.specs.declared.reading.Reading.{Reading}
use Rattle.dm_edit.specs.declared.change.Change.{Change}
use Rattle.dm_edit.specs.declared.plan.Entry.{Entry}
use Rattle.dm_edit.specs.declared.plan.Fate.TheVariants.{Kept}
use Rattle.dm_judge.specs.declared.proposal.Proposal.TheVariants as proposal
use Rattle.dm_judge.specs.Proposals.{proposed}
use Rattle.dm_readings.specs.Again.{AreReaders, put_in, reads}
use Rattle.dm_readings.specs.Units.{IsTyped}
use Rattle.dm_meaning.specs.Replaced.{Zipped}
use Rattle.dm_subjects.specs.Tables.{IsNew}
use Rattle.dm_subjects.specs.declared.subject.Subject.{Subject}
use Rattle.dm_planning.specs.Judging.{Edits, Judges, JudgesAll, JudgesFound, Project, entry_with, found_in, reread_rule}
use Rattle.dm_planning.specs.Steps.{HasJudged, IsLastLeft, items_with}

-- ---- which definition is next

-- the one before those with an outcome
pub last-left : (subjects : List Subject) (entries : List Entry) (at : ℕ) (subject : Subject) → length entries < length subjects → at ≡ length subjects - 1 - length entries
    → subject ≡ get_or subjects at subject → IsLastLeft subjects entries subject
last-left subjects entries at subject less is found =
    let here : length subjects - suc (length entries) ≡ at = omega (arith, is) in
    let inside : at < length subjects = omega (arith, is, less) in
    let next : at + 1 ≡ length subjects - length entries = omega (arith, is, less) in
    ap (λ n. drop n subjects) here ∙ at_drop_more (λ ys. ys) subjects at subject inside ∙ ap (λ y. y ∷ drop (at + 1) subjects) (sym found)
    ∙ ap (λ n. subject ∷ drop n subjects) next

-- an outcome more
pub judged-more : (told : Option Files) (units : List Source) (first now after : Project) (subjects : List Subject) (entries : List Entry) (subject : Subject) (entry : Entry)
    → HasJudged told units first subjects entries now → length entries < length subjects → IsLastLeft subjects entries subject → Judges told units now subject entry after
    → HasJudged told units first subjects (entries ++ entry ∷ []) after
judged-more told units first now after subjects entries subject entry judged less left judges =
    let one : length (entries ++ entry ∷ []) ≡ suc (length entries) = length-append entries (entry ∷ []) ∙ omega arith in
    record {
      few = omega (arith, one, less);
      judged =
          subst (λ (rest : List Subject). JudgesAll told units first rest (reverse (entries ++ entry ∷ [])) after)
          (sym (ap (λ n. drop (length subjects - n) subjects) one ∙ left))
          (subst (λ (all : List Entry). JudgesAll told units first (subject ∷ drop (length subjects - length entries) subjects) all after)
          (sym (reverse-append entries (entry ∷ [])))
          (reverse entries, now, judged.judged, entry, judges, refl));
    }

-- a definition that no unit reads
pub judges-unread : (told : Option Files) (units : List Source) (now : Project) (subject : Subject) (entry : Entry) → found_in now subject ≡ None
    → entry ≡ entry_with subject.definition (Kept reread_rule subject.definition.place) → Judges told units now subject entry now
judges-unread told units now subject entry found kept =
    subst (λ (one : Option Definition). JudgesFound told units now subject one entry now) (sym found) (kept, refl)

-- one that breaks a rule
pub judges-broken : (told : Option Files) (units : List Source) (now : Project) (subject : Subject) (definition : Definition) (rule : ℕ) (place : Place) (entry : Entry) → found_in now subject ≡ Some definition
    → proposed now.readings definition ≡ Some (proposal.Broken rule place) → entry ≡ entry_with definition (Kept rule place) → Judges told units now subject entry now
judges-broken told units now subject definition rule place entry found is kept =
    subst (λ (one : Option Definition). JudgesFound told units now subject one entry now) (sym found) (proposal.Broken rule place, is, (kept, refl))

-- one that is edited
pub judges-change : (told : Option Files) (units : List Source) (now after : Project) (subject : Subject) (definition : Definition) (change : Change) (entry : Entry) → found_in now subject ≡ Some definition
    → proposed now.readings definition ≡ Some (proposal.Change change) → Edits told units now change entry after → Judges told units now subject entry after
judges-change told units now after subject definition change entry found is edits =
    subst (λ (one : Option Definition). JudgesFound told units now subject one entry after) (sym found) (proposal.Change change, is, edits)

-- ---- the readings that are put in

pub put-empty : {A : Type 0} (items : List A) → items_with items [] ≡ items
put-empty [] = refl
put-empty (item ∷ items) = refl

-- the last item put in before the others
pub put-last : {A : Type 0} (items : List A) (front : List (Option A)) (new : A) → length front < length items
    → items_with (set items (length front) new) front ≡ items_with items (front ++ Some new ∷ [])
put-last [] front new less = absurd (omega (arith, less))
put-last (item ∷ items) [] new less = ap (λ rest. new ∷ rest) (sym (put-empty items))
put-last (item ∷ items) (one ∷ front) new less = ap (λ rest. unwrap_or one item ∷ rest) (put-last items front new (omega (arith, less)))

-- where there is no new one last
pub put-none : {A : Type 0} (items : List A) (front : List (Option A)) → items_with items front ≡ items_with items (front ++ None ∷ [])
put-none [] front = refl
put-none (item ∷ items) [] = ap (λ rest. item ∷ rest) (sym (put-empty items))
put-none (item ∷ items) (one ∷ front) = ap (λ rest. unwrap_or one item ∷ rest) (put-none items front)

pub put-readings : (kept : List Reading) (news : List (Option Reading)) → items_with kept news ≡ put_in kept news
put-readings [] news = refl
put-readings (reading ∷ kept) [] = refl
put-readings (reading ∷ kept) (one ∷ news) = ap (λ rest. unwrap_or one reading ∷ rest) (put-readings kept news)

-- as many as before
pub put-length : (kept : List Reading) (news : List (Option Reading)) → length (put_in kept news) ≡ length kept
put-length [] news = refl
put-length (reading ∷ kept) [] = refl
put-length (reading ∷ kept) (one ∷ news) = ap suc (put-length kept news)

-- each unit has a new reading or none
pub readers-length : (file : ℕ) (kept : List Reading) (news : List (Option Reading)) → AreReaders file kept news → length news ≡ length kept
readers-length file [] [] readers = refl
readers-length file [] (one ∷ news) readers = absurd (cc)
readers-length file (reading ∷ kept) [] readers = absurd (cc)
readers-length file (reading ∷ kept) (one ∷ news) readers =
    let rest : map is_some news ≡ map (reads file) kept = cc in ap suc (readers-length file kept news rest)

-- the new ones are well typed where all are then
abbrev pub HasTyped : Option Reading → Type 0
HasTyped new = IfSome new IsTyped

pub new-typed : (kept : List Reading) (news : List (Option Reading)) → length news ≡ length kept → All IsTyped (put_in kept news) → All HasTyped news
new-typed kept [] same typed = All-nil HasTyped
new-typed [] (one ∷ news) same typed = absurd (omega (arith, same))
new-typed (reading ∷ kept) (Some new ∷ news) same typed =
    All-cons HasTyped (Some new) news (All-head IsTyped new (put_in kept news) typed) (new-typed kept news (omega (arith, same)) (All-tail IsTyped new (put_in kept news) typed))
new-typed (reading ∷ kept) (None ∷ news) same typed =
    All-cons HasTyped None news tt (new-typed kept news (omega (arith, same)) (All-tail IsTyped reading (put_in kept news) typed))

-- ---- what is known of them

module _ {A : Type 0} (R : Reading → A → Type 0) where
  pub known-length : (kept : List Reading) (known : List A) → Zipped R kept known → length known ≡ length kept
  known-length [] [] are = refl
  known-length [] (one ∷ known) are = absurd are
  known-length (reading ∷ kept) [] are = absurd are
  known-length (reading ∷ kept) (one ∷ known) are = ap suc (known-length kept known are.1)

  pub new-length : (news : List (Option Reading)) (new : List (Option A)) → Zipped (IsNew R) news new → length new ≡ length news
  new-length [] [] are = refl
  new-length [] (one ∷ new) are = absurd are
  new-length (given ∷ news) [] are = absurd are
  new-length (given ∷ news) (one ∷ new) are = ap suc (new-length news new are.1)

  -- where what is known of new readings is put in
  pub known-put : (kept : List Reading) (known : List A) (news : List (Option Reading)) (new : List (Option A)) → Zipped R kept known → Zipped (IsNew R) news new
      → Zipped R (put_in kept news) (items_with known new)
  known-put [] [] news new are given = tt
  known-put [] (one ∷ known) news new are given = absurd are
  known-put (reading ∷ kept) [] news new are given = absurd are
  known-put (reading ∷ kept) (one ∷ known) [] [] are given = are
  known-put (reading ∷ kept) (one ∷ known) [] (other ∷ new) are given = absurd given
  known-put (reading ∷ kept) (one ∷ known) (first ∷ news) [] are given = absurd given
  known-put (reading ∷ kept) (one ∷ known) (Some first ∷ news) (Some other ∷ new) are given = (given.0, known-put kept known news new are.1 given.1)
  known-put (reading ∷ kept) (one ∷ known) (Some first ∷ news) (None ∷ new) are given = absurd given.0
  known-put (reading ∷ kept) (one ∷ known) (None ∷ news) (Some other ∷ new) are given = absurd given.0
  known-put (reading ∷ kept) (one ∷ known) (None ∷ news) (None ∷ new) are given = (are.0, known-put kept known news new are.1 given.1)
