-- What the steps of planning give and leave.
--     AreGood units readings      what holds of the readings of a project between the steps
--     LeavesProject .. old new stop      what a step leaves of the folder and the loader
--     Holds change old held new      the new bytes of a definition's file are held, or refused
--     RereadsTo told units change kept old stands now new      the new readings stand for the old ones, or these stay
--     items_with items news      new items in place of the old ones
--     HasJudged told units first subjects entries now      the last definitions have outcomes, the last one first
--     IsNext loaded readings subjects entries change      the last one without an outcome is to be edited, or there is none
use Rattle.std.specs.Prelude.{◌≡◌, ◌≢◌, ℕ, suc, ◌-◌, ◌<◌, ◌≤◌, Bool, true, false, List, [], ◌∷◌, ◌++◌, length, drop, reverse, unwrap_or, All, Option, Some, None, Result, Ok, Err}
use Rattle.dm_token.specs.declared.stop.Stop.{Stop}
use Rattle.dm_token.specs.declared.stop.Stop.TheVariants.{Memory, Refused, Limit, ReadFault}
use Rattle.dm_token.specs.declared.expansion.Definition.{Definition}
use Rattle.dm_token.specs.declared.unit.Unit.{Unit as Source}
use Rattle.dm_io.specs.Faults.{Rose}
use Rattle.dm_io.specs.Files.{Files}
use Rattle.dm_search.specs.Loaded.{Loaded, is_held, with_bytes}
use Rattle.dm_search.specs.Loading.{StopsReplacing}
use Rattle.dm_search.specs.Readable.{IsReadable}
use Rattle.dm_unit.specs.Loaders.{most_names}
use Rattle.dm_reading.specs.declared.reading.Reading.{Reading}
use Rattle.dm_edit.specs.declared.change.Change.{Change}
use Rattle.dm_edit.specs.declared.plan.Entry.{Entry}
use Rattle.dm_edit.specs.Edits.{IsEdited}
use Rattle.dm_judge.specs.declared.proposal.Proposal.TheVariants as proposal
use Rattle.dm_judge.specs.Proposals.{proposed}
use Rattle.dm_readings.specs.Again.{put_in}
use Rattle.dm_readings.specs.Leaves.{AreThere}
use Rattle.dm_readings.specs.Units.{IsTyped, KeepsLimits}
use Rattle.dm_subjects.specs.Alignments.{AreAllAligned}
use Rattle.dm_subjects.specs.Subjects.{bytes_at, definition_at}
use Rattle.dm_subjects.specs.declared.subject.Subject.{Subject}
use Rattle.dm_planning.specs.Judging.{IsOfSource, JudgesAll, Project, Rereads, file_of}

abbrev pub project_of : Loaded → List Reading → ℕ → Project
project_of loaded readings count = record { loaded = loaded; readings = readings; count = count }

-- Each unit has a reading, which is well typed, and they keep the limits.
pub record AreGood (units : List Source) (readings : List Reading) : Type 0 where
  pub paired : length readings ≡ length units
  pub typed : All IsTyped readings
  pub limits : KeepsLimits readings

-- The folder's files and rooms stay, and its faults don't fall. A fault is one of a file that wasn't held, and then they rose. Each name
-- keeps its number, and there is room for the names of a unit more. What is held stays held, maybe with other bytes.
pub record LeavesProject (told told_now : Option Files) (room room_now : List ℕ → ℕ) (faults faults_now : ℕ) (old new : Loaded) (stop : Option Stop) : Type 0 where
  pub files_stay : told_now ≡ told
  pub rooms_stay : (other : List ℕ) → room_now other ≡ room other
  pub later : faults ≤ faults_now
  pub failed : (file : ℕ) → stop ≡ Some (ReadFault file) → Rose faults faults_now
  pub unheld : (file : ℕ) → stop ≡ Some (ReadFault file) → is_held old file ≡ false
  pub begins : stop ≢ Some Memory → (more : List (List ℕ)) × (new.names ≡ old.names ++ more)
  pub held_too : stop ≢ Some Memory → (file : ℕ) → is_held old file ≡ true → is_held new file ≡ true
  pub roomy : stop ≢ Some Memory → length new.names < most_names
  pub there : stop ≢ Some Memory → AreThere told old → AreThere told new

-- ---- an edit

-- New bytes of a definition's file are held, or refused, and then all stays.
abbrev pub HoldsAs : Change → List ℕ → Loaded → Bool → Loaded → Type 0
HoldsAs change edited old true new = IsReadable (file_of change) edited × (new ≡ with_bytes old (file_of change) edited)
HoldsAs change edited old false new = (stop : Stop) × IsOfSource stop × StopsReplacing (file_of change) edited stop × (new ≡ old)

abbrev pub Holds : Change → Loaded → Bool → Loaded → Type 0
Holds change old held new =
    (edited : List ℕ) × IsEdited (bytes_at old (file_of change)) change edited × HoldsAs change edited old held new

-- whether the source is the cause of a stop
abbrev pub is_of_source : Stop → Bool
is_of_source Memory = false
is_of_source (Refused refusal) = true
is_of_source (Limit limit) = true
is_of_source (ReadFault file) = false

-- New readings stand where all are aligned. If not, and behind a stop, the old ones stay.
abbrev pub Stands : Change → List Reading → Result (List (Option Reading)) Stop → Bool → List Reading → Type 0
Stands change kept (Err stop) true now = ⊥
Stands change kept (Err stop) false now = IsOfSource stop × (now ≡ kept)
Stands change kept (Ok news) true now = AreAllAligned change kept news × (now ≡ put_in kept news)
Stands change kept (Ok news) false now = (¬ AreAllAligned change kept news) × (now ≡ kept)

abbrev pub RereadsTo : Option Files → List Source → Change → List Reading → Loaded → Bool → List Reading → Loaded → Type 0
RereadsTo told units change kept old stands now new =
    (result : Result (List (Option Reading)) Stop) × Rereads told (file_of change) units kept old result new × Stands change kept result stands now

abbrev pub items_with : {A : Type 0} → List A → List (Option A) → List A
items_with [] news = []
items_with (item ∷ items) [] = item ∷ items
items_with (item ∷ items) (new ∷ news) = unwrap_or new item ∷ items_with items news

-- ---- all definitions

-- As many of the last definitions have outcomes as there are entries.
pub record HasJudged (told : Option Files) (units : List Source) (first : Project) (subjects : List Subject) (entries : List Entry) (now : Project) : Type 0 where
  pub few : length entries ≤ length subjects
  pub judged : JudgesAll told units first (drop (length subjects - length entries) subjects) (reverse entries) now

-- the last one without an outcome
abbrev pub IsLastLeft : List Subject → List Entry → Subject → Type 0
IsLastLeft subjects entries subject =
    drop (length subjects - suc (length entries)) subjects ≡ subject ∷ drop (length subjects - length entries) subjects

abbrev pub IsNext : Loaded → List Reading → List Subject → List Entry → Option Change → Type 0
IsNext loaded readings subjects entries None = length entries ≡ length subjects
IsNext loaded readings subjects entries (Some change) =
    (length entries < length subjects) × (subject : Subject) × IsLastLeft subjects entries subject
    × (definition : Definition) × (definition_at loaded readings subject.key ≡ Some definition)
    × (proposed readings definition ≡ Some (proposal.Change change))
