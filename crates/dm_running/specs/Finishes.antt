-- What comes behind the reading of a unit.
use Rattle.std.specs.Prelude.{◌≡◌, ℕ, true, false, List, Option, None, Result, Ok, Err}
use Rattle.dm_token.specs.declared.stop.Memory.{Memory}
use Rattle.dm_token.specs.declared.stop.Refusal.{Refusal}
use Rattle.dm_token.specs.LimitNumbers.{definitions}
use Rattle.dm_token.specs.Refusals.{no_main}
use Rattle.dm_io.specs.Output.{appended, MayHaveAppended}
use Rattle.dm_io.specs.Faults.{Rose}
use Rattle.dm_lines.specs.Lines.{limit_line, refusal_line}
use Rattle.dm_lines.specs.Puts.{PutsText}
use Rattle.dm_lines.specs.Statuses as statuses
use Rattle.dm_meaning.specs.Units.{main_of}
use Rattle.dm_exec.specs.declared.outcome.Outcome.{Outcome}
use Rattle.dm_exec.specs.Outcomes.{IsRun}
use Rattle.dm_reading.specs.declared.reading.Reading.{Reading}
use Rattle.dm_run.specs.Texts.{run_text}
use Rattle.dm_words.specs.Requests.{RunRequest}
use Rattle.dm_running.specs.Readings.{exceeds, program_of}

-- a run that is put, one that can't be put, too many definitions, or no `main`
pub data Finish : Type 0 where
  ran : Outcome → Finish
  unput : Outcome → Finish
  too_many_definitions : Finish
  main_missing : Finish

abbrev pub status_of_finish : Finish → ℕ
status_of_finish (ran outcome) = statuses.done
status_of_finish (unput outcome) = statuses.output_fault
status_of_finish too_many_definitions = statuses.limit_passed
status_of_finish main_missing = statuses.refused

-- a unit without `main` is refused at the beginning of its main file
abbrev pub without_main : Refusal
without_main = record { number = no_main; detail = 0; place = record { file = 0; byte = 0; line = 1; column = 1 } }

-- the one run of the unit's program on an input that the request's order and number of steps choose
abbrev pub Runs : RunRequest → Reading → List ℕ → Outcome → Type 0
Runs request reading input outcome = (exceeds reading.pp.read ≡ false) × IsRun (program_of reading.types reading.core) request.order request.steps input outcome

-- what each finish means between two moments of a sink, where these are the files' names by number
abbrev pub IsFinish : RunRequest → Reading → List (List ℕ) → List ℕ → Option (List ℕ) → Option (List ℕ) → ℕ → ℕ → Finish → Type 0
IsFinish request reading names input before after faults_before faults_after (ran outcome) =
    Runs request reading input outcome × (after ≡ appended before (run_text names outcome))
IsFinish request reading names input before after faults_before faults_after (unput outcome) =
    Runs request reading input outcome × Rose faults_before faults_after × MayHaveAppended before after (run_text names outcome)
IsFinish request reading names input before after faults_before faults_after too_many_definitions =
    (exceeds reading.pp.read ≡ true) × PutsText before after faults_before faults_after (limit_line definitions request.project)
IsFinish request reading names input before after faults_before faults_after main_missing =
    (exceeds reading.pp.read ≡ false) × (main_of (program_of reading.types reading.core) ≡ None)
    × PutsText before after faults_before faults_after (refusal_line reading.unit.file without_main)

-- the finish with a status, or want of memory
abbrev pub IsFinishedAs : RunRequest → Reading → List (List ℕ) → List ℕ → Option (List ℕ) → Option (List ℕ) → ℕ → ℕ → Result ℕ Memory → Type 0
IsFinishedAs request reading names input before after faults_before faults_after (Ok status) =
    (finish : Finish) × (status ≡ status_of_finish finish) × IsFinish request reading names input before after faults_before faults_after finish
IsFinishedAs request reading names input before after faults_before faults_after (Err error) = after ≡ before
