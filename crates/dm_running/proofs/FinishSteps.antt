-- From what comes behind a reading to its finish.
use Rattle.std.proofs.Common.{◌≡◌, ◌⊎◌, inl, inr, ℕ, false, List, Option, Some, None, MatchOption, Result, Ok, Err, IfOk, OnErr, ap, subst}
use Rattle.dm_token.specs.declared.stop.Memory.{Memory}
use Rattle.dm_io.specs.Output.{appended, MayHaveAppended}
use Rattle.dm_io.specs.Faults.{Rose}
use Rattle.dm_meaning.specs.Units.{main_of}
use Rattle.dm_exec.specs.declared.outcome.Outcome.{Outcome}
use Rattle.dm_exec.specs.Outcomes.{IsRun}
use Rattle.dm_program.specs.Sources.{Source, meant}
use Rattle.dm_reading.specs.declared.reading.Reading.{Reading}
use Rattle.dm_run.specs.Texts.{run_text}
use Rattle.dm_words.specs.Requests.{RunRequest}
use Rattle.dm_running.specs.Readings.{exceeds, program_of}
use Rattle.dm_running.specs.Finishes.{ran, unput, Runs, IsFinishedAs}
use Rattle.dm_lines.specs.Statuses as statuses

-- the run of the program that is made of a reading
pub reading_runs : (request : RunRequest) (reading : Reading) (input : List ℕ) (made : Option Source) (program : Source) (outcome : Outcome) → exceeds reading.pp.read ≡ false → made ≡ Some program
    → MatchOption made (main_of (program_of reading.types reading.core) ≡ None) (λ one. one ≡ record { table = reading.types; unit = reading.core })
    → IsRun (meant program) request.order request.steps input outcome → Runs request reading input outcome
reading_runs request reading input made program outcome few is makes runs =
    let there : Source = record { table = reading.types; unit = reading.core } in
    let same : program ≡ there = subst (λ (given : Option Source). MatchOption given (main_of (program_of reading.types reading.core) ≡ None) (λ one. one ≡ there)) is makes in
    (few, subst (λ (one : Source). IsRun (meant one) request.order request.steps input outcome) same runs)

module _ (request : RunRequest) (reading : Reading) (names : List (List ℕ)) (input : List ℕ) (before after : Option (List ℕ)) (faults_before faults_after : ℕ) (result : Result ℕ Memory) where
  pub finished_run : (outcome : Outcome) → Runs request reading input outcome → (result ≡ Ok statuses.done → after ≡ appended before (run_text names outcome))
      → (result ≡ Ok statuses.output_fault → Rose faults_before faults_after × MayHaveAppended before after (run_text names outcome)) → IfOk result (λ status. (status ≡ statuses.done) ⊎ (status ≡ statuses.output_fault))
      → OnErr result (after ≡ before) → IsFinishedAs request reading names input before after faults_before faults_after result
  finished_run outcome runs = at result
    where
      at : (given : Result ℕ Memory) → (given ≡ Ok statuses.done → after ≡ appended before (run_text names outcome))
          → (given ≡ Ok statuses.output_fault → Rose faults_before faults_after × MayHaveAppended before after (run_text names outcome)) → IfOk given (λ status. (status ≡ statuses.done) ⊎ (status ≡ statuses.output_fault))
          → OnErr given (after ≡ before) → IsFinishedAs request reading names input before after faults_before faults_after given
      at (Ok status) done failed (inl is) unwritten = (ran outcome, is, (runs, done (ap Ok is)))
      at (Ok status) done failed (inr is) unwritten =
          let fault = failed (ap Ok is) in
          (unput outcome, is, (runs, fault.0, fault.1))
      at (Err error) done failed is unwritten = unwritten
