-- What becomes of the definitions of a project, one after the other, each in the project as edited so far.
--     Edits told units before change entry after      the edit of a definition stands, or the definition stays
--     Judges told units before subject entry after      what is judged of one definition, and the project then
--     JudgesAll told units before subjects entries after      the same for all, from the last to the first
use Rattle.std.specs.Prelude.{◌≡◌, ◌⊎◌, ℕ, ◌+◌, ◌≤◌, List, [], ◌∷◌, Option, Some, None, Result, Ok, Err}
use Rattle.dm_token.specs.declared.stop.Stop.{Stop}
use Rattle.dm_token.specs.declared.stop.Stop.TheVariants.{Memory, Refused, Limit, ReadFault}
use Rattle.dm_token.specs.declared.expansion.Definition.{Definition}
use Rattle.dm_token.specs.declared.unit.Unit.{Unit as Source}
use Rattle.dm_token.specs.Limits.{header_count}
use Rattle.dm_io.specs.Files.{Files}
use Rattle.dm_search.specs.Loaded.{Loaded, with_bytes}
use Rattle.dm_search.specs.Loading.{StopsReplacing}
use Rattle.dm_search.specs.Readable.{IsReadable}
use Rattle.dm_unit.specs.Views.{StaysServed}
use Rattle.dm_reading.specs.declared.reading.Reading.{Reading}
use Rattle.dm_edit.specs.declared.change.Change.{Change}
use Rattle.dm_edit.specs.declared.plan.Entry.{Entry}
use Rattle.dm_edit.specs.declared.plan.Fate.{Fate}
use Rattle.dm_edit.specs.declared.plan.Fate.TheVariants.{Rewritten, Kept}
use Rattle.dm_edit.specs.Cuts.{LiesIn}
use Rattle.dm_edit.specs.Edits.{IsEdited}
use Rattle.dm_readings.specs.Again.{IsReadAgain, put_in, reader_count}
use Rattle.dm_readings.specs.Leaves.{IsNumbered, StaysKnown}
use Rattle.dm_judge.specs.declared.proposal.Proposal.{Proposal}
use Rattle.dm_judge.specs.declared.proposal.Proposal.TheVariants as proposal
use Rattle.dm_judge.specs.Proposals.{proposed}
use Rattle.dm_subjects.specs.Alignments.{AreAllAligned}
use Rattle.dm_subjects.specs.Subjects.{bytes_at, definition_at}
use Rattle.dm_subjects.specs.declared.subject.Subject.{Subject}

-- a project as edited so far: what the loader knows, the readings of the units, and how many readings there were
pub record Project : Type 0 where
  pub loaded : Loaded
  pub readings : List Reading
  pub count : ℕ

abbrev pub file_of : Change → ℕ
file_of change = change.definition.place.file

-- ---- an edit

abbrev pub entry_with : Definition → Fate → Entry
entry_with definition fate = record { definition = definition; outcome = fate }

-- The definition stays by rule 15, at its name.
abbrev pub reread_rule : ℕ
reread_rule = 15

abbrev pub IsKept : Definition → Entry → Project → Project → Type 0
IsKept definition entry stands after = (entry ≡ entry_with definition (Kept reread_rule definition.place)) × (after ≡ stands)

abbrev pub IsRewritten : Change → Entry → Project → Project → Type 0
IsRewritten change entry stands after = (entry ≡ entry_with change.definition (Rewritten change.kind)) × (after ≡ stands)

-- neither want of memory nor a fault of the folder, of which no definition is the cause
abbrev pub IsOfSource : Stop → Type 0
IsOfSource Memory = ⊥
IsOfSource (Refused refusal) = Unit {0}
IsOfSource (Limit limit) = Unit {0}
IsOfSource (ReadFault file) = ⊥

-- This comes of reading again each unit that reads a file: its new reading, or the first stop. What the loader holds stays, and so does
-- the file that each name has.
abbrev pub Rereads : Option Files → ℕ → List Source → List Reading → Loaded → Result (List (Option Reading)) Stop → Loaded → Type 0
Rereads told file units kept old result new =
    StaysKnown old new × ((files : Files) → told ≡ Some files → IsReadAgain files file units kept old result new)
    × StaysServed told old new × IsNumbered new

-- after so many readings more
abbrev pub read_again : Change → Project → ℕ
read_again change before = before.count + reader_count (file_of change) before.readings

-- the new readings stand for the old ones
abbrev pub rewritten : Change → Project → Loaded → List (Option Reading) → Project
rewritten change before known news =
    record { loaded = known; readings = put_in before.readings news; count = read_again change before }

-- the old readings stay, and the old bytes are put back
abbrev pub restored : Change → Project → Loaded → Project
restored change before known = record {
  loaded = with_bytes known (file_of change) (bytes_at before.loaded (file_of change));
  readings = before.readings;
  count = read_again change before;
}

-- The edit stands where all units are read within the limits, and are aligned.
abbrev pub EndsBy : Change → Project → Result (List (Option Reading)) Stop → Loaded → Entry → Project → Type 0
EndsBy change before (Err stop) known entry after = IsOfSource stop × IsKept change.definition entry (restored change before known) after
EndsBy change before (Ok news) known entry after =
    (AreAllAligned change before.readings news × IsRewritten change entry (rewritten change before known news) after)
    ⊎ ((¬ AreAllAligned change before.readings news) × IsKept change.definition entry (restored change before known) after)

-- New bytes may be refused before any unit is read. Else each unit that reads the file is read again.
abbrev pub HoldsEdited : Option Files → List Source → Project → Change → List ℕ → Entry → Project → Type 0
HoldsEdited told units before change edited entry after =
    ((stop : Stop) × IsOfSource stop × StopsReplacing (file_of change) edited stop × IsKept change.definition entry before after)
    ⊎ (IsReadable (file_of change) edited × (result : Result (List (Option Reading)) Stop) × (known : Loaded)
    × Rereads told (file_of change) units before.readings (with_bytes before.loaded (file_of change) edited) result known
    × EndsBy change before result known entry after)

-- A definition can be edited where it lies in the bytes of its file, and that isn't a built-in header: the numbers of these come first.
abbrev pub CanBeEdited : Loaded → Definition → Type 0
CanBeEdited loaded definition =
    (header_count ≤ definition.place.file) × LiesIn (bytes_at loaded definition.place.file) definition

abbrev pub Edits : Option Files → List Source → Project → Change → Entry → Project → Type 0
Edits told units before change entry after =
    ((¬ CanBeEdited before.loaded change.definition) × IsKept change.definition entry before after)
    ⊎ ((edited : List ℕ) × (header_count ≤ file_of change) × IsEdited (bytes_at before.loaded (file_of change)) change edited
    × HoldsEdited told units before change edited entry after)

-- ---- one definition

-- as the first unit that reads it has it
abbrev pub found_in : Project → Subject → Option Definition
found_in project subject = definition_at project.loaded project.readings subject.key

-- One that breaks a rule stays. Another is edited at once.
abbrev pub JudgesBy : Option Files → List Source → Project → Definition → Proposal → Entry → Project → Type 0
JudgesBy told units before definition (proposal.Broken rule place) entry after =
    (entry ≡ entry_with definition (Kept rule place)) × (after ≡ before)
JudgesBy told units before definition (proposal.Change change) entry after = Edits told units before change entry after

-- One that no unit reads any more stays too, as it was read first.
abbrev pub JudgesFound : Option Files → List Source → Project → Subject → Option Definition → Entry → Project → Type 0
JudgesFound told units before subject None entry after = IsKept subject.definition entry before after
JudgesFound told units before subject (Some definition) entry after =
    (answer : Proposal) × (proposed before.readings definition ≡ Some answer) × JudgesBy told units before definition answer entry after

abbrev pub Judges : Option Files → List Source → Project → Subject → Entry → Project → Type 0
Judges told units before subject entry after = JudgesFound told units before subject (found_in before subject) entry after

-- ---- all of them

-- The last is judged first.
abbrev pub JudgesAll : Option Files → List Source → Project → List Subject → List Entry → Project → Type 0
JudgesAll told units before [] entries after = (entries ≡ []) × (after ≡ before)
JudgesAll told units before (subject ∷ subjects) entries after =
    (others : List Entry) × (middle : Project) × JudgesAll told units before subjects others middle
    × (entry : Entry) × Judges told units middle subject entry after × (entries ≡ entry ∷ others)
