-- The plan of a project.
--     IsPlan told units first last plan      the plan of a project that was read, and the project with all its edits
--     IsPlanned told units old count result new now      what the call for a plan gives, between two moments of a loader and of the count of readings
use Rattle.std.specs.Prelude.{◌≡◌, ◌⊎◌, ℕ, ◌+◌, ◌≤◌, List, map, length, Option, Some, Result, Ok, Err, IsPermutation, IsSortedByKey}
use Rattle.std.specs.Cmp.Lexicographic.{slice_cmp}
use Rattle.std.specs.Ordering.{nat_cmp}
use Rattle.dm_token.specs.declared.stop.Stop.{Stop}
use Rattle.dm_token.specs.declared.stop.Stop.TheVariants.{Memory, Refused, Limit, ReadFault}
use Rattle.dm_token.specs.declared.unit.Unit.{Unit as Source}
use Rattle.dm_io.specs.Files.{Files}
use Rattle.dm_search.specs.Loaded.{Loaded}
use Rattle.dm_edit.specs.declared.plan.Changed.{Changed}
use Rattle.dm_edit.specs.declared.plan.Plan.{Plan}
use Rattle.dm_readings.specs.Definitions.{definitions_in}
use Rattle.dm_readings.specs.Leaves.{IsNumbered}
use Rattle.dm_readings.specs.Units.{KeepsLimits, ReadsProject, ending}
use Rattle.dm_subjects.specs.Files.{changed_file, edited_files}
use Rattle.dm_subjects.specs.Subjects.{subject_of}
use Rattle.dm_subjects.specs.declared.subject.Subject.{Subject}
use Rattle.dm_planning.specs.Judging.{Project, JudgesAll}

-- ---- definitions

-- in the order of first reading
abbrev pub subjects_of : Project → List Subject
subjects_of first = map (subject_of first.loaded) (definitions_in first.readings)

-- ---- the plan

-- Each definition is judged, in the order of first reading the last one first. The files with a rewritten one are written, in the byte
-- order of their names, of which no two are the same.
pub record IsPlan (told : Option Files) (units : List Source) (first last : Project) (plan : Plan) : Type 0 where
  pub judged : JudgesAll told units first (subjects_of first) plan.entries last
  pub names : plan.names ≡ last.loaded.names
  pub numbered : IsNumbered last.loaded
  pub changed : IsPermutation (map (changed_file last.loaded) (edited_files last.loaded plan.entries)) plan.files
  pub ascending : IsSortedByKey (λ (one : Changed). one.name) (slice_cmp nat_cmp) plan.files

-- ---- the call

-- the first readings, each unit once
abbrev pub ReadsFirst : Option Files → List Source → Loaded → ℕ → Project → Type 0
ReadsFirst told units old count first =
    (first.count ≡ count + length units)
    × ((files : Files) → told ≡ Some files → ReadsProject files units old (ending (Ok first.readings) (length units) first.loaded))

-- A stop is that of the first readings, of which there are as many as were begun.
abbrev pub StopsFirst : Option Files → List Source → Loaded → ℕ → Stop → Loaded → ℕ → Type 0
StopsFirst told units old count stop new now =
    (begun : ℕ) × (begun ≤ length units) × (now ≡ count + begun)
    × ((files : Files) → told ≡ Some files → ReadsProject files units old (ending (Err stop) begun new))

-- A fault of the folder may come at any reading. Only want of memory has no cause.
abbrev pub IsPlanned : Option Files → List Source → Loaded → ℕ → Result Plan Stop → Loaded → ℕ → Type 0
IsPlanned told units old count (Ok plan) new now =
    (first last : Project) × ReadsFirst told units old count first × IsPlan told units first last plan
    × KeepsLimits last.readings × (new ≡ last.loaded) × (now ≡ last.count)
IsPlanned told units old count (Err Memory) new now = Unit {0}
IsPlanned told units old count (Err (ReadFault file)) new now =
    StopsFirst told units old count (ReadFault file) new now ⊎ ((first : Project) × ReadsFirst told units old count first)
IsPlanned told units old count (Err (Refused refusal)) new now = StopsFirst told units old count (Refused refusal) new now
IsPlanned told units old count (Err (Limit limit)) new now = StopsFirst told units old count (Limit limit) new now
