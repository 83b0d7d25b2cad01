-- Writing the files of a plan, and putting its report.
--     IsCommitted prepared before after commit      how writing files and putting a report ends
use Rattle.std.specs.Prelude.{◌≡◌, ◌≤◌, ℕ, List, ◌∷◌, ◌++◌, length, take, All, Option, Some, slice_get}
use Rattle.dm_io.specs.Files.{Files, MayHaveSpoiled}
use Rattle.dm_io.specs.Output.{appended, MayHaveAppended}
use Rattle.dm_io.specs.Faults.{Rose}
use Rattle.dm_lines.specs.Outside.{Outside, Puts}
use Rattle.dm_lines.specs.Statuses as statuses
use Rattle.dm_edit.specs.declared.plan.Changed.{Changed}
use Rattle.dm_last.specs.Last.{with_files}
use Rattle.dm_apply.specs.declared.prepared.Prepared.{Prepared}

-- The write of the file at a position failed, behind those before it.
abbrev pub FailsAt : Option Files → Option Files → List Changed → ℕ → Type 0
FailsAt before after files at = (file : Changed) × (slice_get files at ≡ Some file) × MayHaveSpoiled (with_files before (take at files)) after file.name

-- memory is taken for the new bytes of a file
abbrev pub HasRoom : (List ℕ → ℕ) → Changed → Type 0
HasRoom room file = length file.bytes ≤ room file.name

-- memory is taken for what may be put
pub record HasOutputRoom (prepared : Prepared) (room : ℕ) : Type 0 where
  pub report : length prepared.report ≤ room
  pub lines : All (λ (line : List ℕ). length line ≤ room) prepared.lines

-- All is done, or the write of a file failed behind those of others, or the report could not be put.
pub data Commit : Type 0 where
  done : Commit
  write_failed : List Changed → Changed → List Changed → Commit
  output_failed : Commit

-- the exit status of each
abbrev pub status_of_commit : Commit → ℕ
status_of_commit done = statuses.done
status_of_commit (write_failed written file left) = statuses.write_fault
status_of_commit output_failed = statuses.output_fault

-- A file whose write failed has any bytes or is absent: those before it have their new bytes, and all others stay. Its line is put.
abbrev pub IsCommitted : Prepared → Outside → Outside → Commit → Type 0
IsCommitted prepared before after done =
    (after.files ≡ with_files before.files prepared.files) × (after.written ≡ appended before.written prepared.report)
IsCommitted prepared before after (write_failed written file left) =
    (prepared.files ≡ written ++ file ∷ left) × Rose before.folder_faults after.folder_faults
    × MayHaveSpoiled (with_files before.files written) after.files file.name
    × (line : List ℕ) × (slice_get prepared.lines (length written) ≡ Some line) × Puts before after line
IsCommitted prepared before after output_failed =
    (after.files ≡ with_files before.files prepared.files) × Rose before.sink_faults after.sink_faults
    × MayHaveAppended before.written after.written prepared.report

-- the same with its status
abbrev pub IsCommittedAs : Prepared → Outside → Outside → ℕ → Type 0
IsCommittedAs prepared before after status = (commit : Commit) × (status ≡ status_of_commit commit) × IsCommitted prepared before after commit
