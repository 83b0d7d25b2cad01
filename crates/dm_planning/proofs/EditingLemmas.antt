-- The steps of an edit: its bytes are held, units are read again, and it stands or is taken back.
use Rattle.std.proofs.Common.{◌≡◌, inl, inr, ℕ, ◌+◌, ◌<◌, Bool, true, false, List, ◌∷◌, [], ◌++◌, length, Vec, vec_len, Option, Some, None, Result, Ok, Err, IsTrue, ◌↔◌, sym, ap, ◌∙◌, subst}
use Rattle.dm_token.specs.declared.stop.Stop.{Stop}
use Rattle.dm_token.specs.declared.expansion.Definition.{Definition}
use Rattle.dm_token.specs.declared.unit.Unit.{Unit as Source}
use Rattle.dm_io.specs.Files.{Files}
use Rattle.dm_search.specs.Loaded.{Loaded, is_held, with_bytes}
use Rattle.dm_unit.specs.Loaders.{most_names}
use Rattle.dm_reading.specs.declared.reading.Reading.{Reading}
use Rattle.dm_edit.specs.declared.change.Change.{Change}
use Rattle.dm_edit.specs.declared.plan.Entry.{Entry}
use Rattle.dm_edit.specs.declared.plan.Fate.TheVariants.{Rewritten, Kept}
use Rattle.dm_readings.specs.Again.{put_in, reader_count}
use Rattle.dm_subjects.specs.Subjects.{bytes_at}
use Rattle.dm_subjects.specs.declared.subject.Subject.{Subject}
use Rattle.dm_planning.specs.Judging.{CanBeEdited, Edits, EndsBy, Project, Rereads, entry_with, file_of, reread_rule}
use Rattle.dm_planning.specs.Steps.{HasJudged, Holds, IsNext, LeavesProject, RereadsTo, Stands, project_of}
use Rattle.dm_planning.proofs.EditLemmas.{held-where-lies}
use Rattle.dm_planning.proofs.JudgeLemmas.{judged-more, judges-change}
use Rattle.dm_planning.proofs.LeaveLemmas.{leaves-replaced}

pub vec-length : {X Z : Type 0} (v : Vec X Z) → vec_len v ≡ length v.items
vec-length v = v.ok.0

pub when-true : (b : Bool) (P : Type 0) → IsTrue b ↔ P → b ≡ true → P
when-true b P tells is = tells.0 is

-- what can be edited is held
pub held-can : (loaded : Loaded) (definition : Definition) → CanBeEdited loaded definition → is_held loaded definition.place.file ≡ true
held-can loaded definition can = held-where-lies loaded definition.place.file definition can.1

-- the new bytes are held
pub leaves-held : (told : Option Files) (room : List ℕ → ℕ) (faults : ℕ) (change : Change) (old new : Loaded) → length old.names < most_names → is_held old (file_of change) ≡ true → Holds change old true new
    → LeavesProject told told room room faults faults old new None
leaves-held told room faults change old new roomy held holds =
    subst (λ known. LeavesProject told told room room faults faults old known None) (sym holds.2.1) (leaves-replaced told room faults old (file_of change) holds.0 roomy held)

module _ (told : Option Files) (units : List Source) (old held known new : Loaded) (kept now : List Reading) (count after : ℕ) (change : Change) (entry : Entry) where
  abbrev before : Project
  before = project_of old kept count

  -- the edit, by what becomes of the readings
  edits-by : CanBeEdited old change.definition → Holds change old true held → (result : Result (List (Option Reading)) Stop) → Rereads told (file_of change) units kept held result known
      → EndsBy change before result known entry (project_of new now after) → Edits told units before change entry (project_of new now after)
  edits-by can holds result rereads ends =
      inr (
        holds.0,
        can.0,
        holds.1,
        inr (holds.2.0, result, known, subst (λ l. Rereads told (file_of change) units kept l result known) holds.2.1 rereads, ends),
      )

  -- the project after it
  after-is : (loaded : Loaded) (readings : List Reading) → new ≡ loaded → now ≡ readings → after ≡ count + reader_count (file_of change) kept
      → project_of new now after ≡ project_of loaded readings (count + reader_count (file_of change) kept)
  after-is loaded readings loads reads counts =
      ap (λ l. project_of l now after) loads ∙ ap (λ rs. project_of loaded rs after) reads ∙ ap (project_of loaded readings) counts

  pub edits-stand : CanBeEdited old change.definition → Holds change old true held → RereadsTo told units change kept held true now known → new ≡ known
      → after ≡ count + reader_count (file_of change) kept → entry ≡ entry_with change.definition (Rewritten change.kind) → Edits told units before change entry (project_of new now after)
  edits-stand can holds rereads loads counts is = edits-by can holds rereads.0 rereads.1 (by rereads.0 rereads.2)
    where
      by : (result : Result (List (Option Reading)) Stop) → Stands change kept result true now → EndsBy change before result known entry (project_of new now after)
      by (Err stop) stands = absurd stands
      by (Ok news) stands = inl (stands.0, (is, after-is known (put_in kept news) loads stands.1 counts))

  pub edits-back : CanBeEdited old change.definition → Holds change old true held → RereadsTo told units change kept held false now known
      → new ≡ with_bytes known (file_of change) (bytes_at old (file_of change)) → after ≡ count + reader_count (file_of change) kept
      → entry ≡ entry_with change.definition (Kept reread_rule change.definition.place) → Edits told units before change entry (project_of new now after)
  edits-back can holds rereads loads counts is = edits-by can holds rereads.0 rereads.1 (by rereads.0 rereads.2)
    where
      by : (result : Result (List (Option Reading)) Stop) → Stands change kept result false now → EndsBy change before result known entry (project_of new now after)
      by (Err stop) stands = (stands.0, (is, after-is (with_bytes known (file_of change) (bytes_at old (file_of change))) kept loads stands.1 counts))
      by (Ok news) stands = inr (stands.0, (is, after-is (with_bytes known (file_of change) (bytes_at old (file_of change))) kept loads stands.1 counts))

-- the next definition is edited
pub judged-next : (told : Option Files) (units : List Source) (first now after : Project) (subjects : List Subject) (entries : List Entry) (change : Change) (entry : Entry) → HasJudged told units first subjects entries now
    → IsNext now.loaded now.readings subjects entries (Some change) → Edits told units now change entry after → HasJudged told units first subjects (entries ++ entry ∷ []) after
judged-next told units first now after subjects entries change entry judged next edits =
    judged-more told units first now after subjects entries next.1 entry judged next.0 next.2 (judges-change told units now after next.1 next.3 change entry next.4 next.5 edits)
