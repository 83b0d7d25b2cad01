-- From what the steps of a run do to how it ends.
use Rattle.std.proofs.Common.{◌≡◌, ◌≢◌, ◌∙◌, ℕ, zero, suc, ◌≤◌, true, List, [], ◌∷◌, length, Option, Some, None, Result, Ok, Err, IfOk, OnOk, OnErr, All, refl, sym, subst, arith}
use Rattle.dm_token.specs.declared.stop.Memory.{Memory}
use Rattle.dm_token.specs.declared.stop.Stop.{Stop}
use Rattle.dm_token.specs.declared.stop.Stop.TheVariants as stop
use Rattle.dm_token.specs.declared.unit.Unit.{Unit as Source}
use Rattle.dm_io.specs.Files.{Files}
use Rattle.dm_io.specs.Faults.{Rose}
use Rattle.dm_search.specs.Loaded.{Loaded}
use Rattle.dm_lines.specs.Outside.{Outside, KeepsFiles, Puts}
use Rattle.dm_lines.specs.Puts.{PutsText}
use Rattle.dm_lines.specs.Stops.{line_of_stop, status_of_stop}
use Rattle.dm_reading.specs.declared.reading.Reading.{Reading}
use Rattle.dm_words.specs.Requests.{RunRequest}
use Rattle.dm_running.specs.declared.input.NoInput.{NoInput}
use Rattle.dm_running.specs.declared.input.NoInput.TheVariants.{Missing, TooLong, ReadFault}
use Rattle.dm_running.specs.Inputs.{HasInput, HasNoInput, IsNoInputFile, line_of_no_input, line_without_input, status_of_no_input}
use Rattle.dm_running.specs.Readings.{IsUnitReading}
use Rattle.dm_running.specs.Finishes.{IsFinishedAs}
use Rattle.dm_running.specs.Endings.{RunEnding, finished, stopped, input_missing, memory_wanted, HasCause, EndsWithInput, EndsWithInputAs, EndsRun, EndsRunAs}

-- faults that rose since a later moment rose since an earlier one
pub Rose-earlier : (before middle after : ℕ) → before ≤ middle → Rose middle after → Rose before after
Rose-earlier before middle after order rose = omega arith

-- a unit that was read
pub ends_finished : (request : RunRequest) (unit : Source) (input : List ℕ) (before after : Outside) (reading : Reading) (files : Loaded) (names : List (List ℕ)) (result : Result ℕ Memory) → names ≡ files.names
    → IsUnitReading before.files unit (Ok reading) files → KeepsFiles before after
    → IsFinishedAs request reading names input before.written after.written before.sink_faults after.sink_faults result → EndsWithInputAs request unit input before after result
ends_finished request unit input before after reading files names (Ok status) same read keeps finish =
    let here = subst (λ n. IsFinishedAs request reading n input before.written after.written before.sink_faults after.sink_faults (Ok status)) same finish in
    (finished input reading files here.0, here.1, (refl, read, keeps, here.2))
ends_finished request unit input before after reading files names (Err error) same read keeps finish = (keeps, finish)

-- a unit whose reading stopped
pub ends_stopped : (request : RunRequest) (unit : Source) (input : List ℕ) (before after : Outside) (why : Stop) (files : Loaded) (names : List (List ℕ)) (result : Result ℕ Memory) → names ≡ files.names
    → IsUnitReading before.files unit (Err why) files → KeepsFiles before after → HasCause why before.folder_faults after.folder_faults → OnOk result (Puts before after (line_of_stop names why))
    → IfOk result (λ status. (status ≡ status_of_stop why) × (why ≢ stop.Memory)) → OnErr result (after.written ≡ before.written) → EndsWithInputAs request unit input before after result
ends_stopped request unit input before after why files names (Ok status) same read keeps cause puts is unwritten =
    (stopped input why files, is.0, (refl, read, is.1, cause, keeps, subst (λ n. Puts before after (line_of_stop n why)) same puts))
ends_stopped request unit input before after why files names (Err error) same read keeps cause puts is unwritten = (keeps, unwritten)

-- what holds from a later moment on, at which the files and the output are as before
module _ (request : RunRequest) (unit : Source) (input : List ℕ) (before middle after : Outside) (has : HasInput before.files request.input input)
    (same_files : middle.files ≡ before.files) (same_written : middle.written ≡ before.written) (earlier : before.folder_faults ≤ middle.folder_faults) (same_faults : middle.sink_faults ≡ before.sink_faults) where
  from_earlier : (P : Option Files → Option (List ℕ) → ℕ → Type 0) → P middle.files middle.written middle.sink_faults → P before.files before.written before.sink_faults
  from_earlier P holds =
      subst (λ faults. P before.files before.written faults) same_faults
      (subst (λ told. P before.files told middle.sink_faults) same_written (subst (λ told. P told middle.written middle.sink_faults) same_files holds))

  ends_earlier : (ending : RunEnding) → EndsWithInput request unit input middle after ending → EndsRun request unit before after ending
  ends_earlier (finished bytes reading files finish) ends =
      let here = from_earlier (λ told written faults. EndsWithInput request unit input (record before { files = told; written = written; sink_faults = faults }) after (finished bytes reading files finish)) ends in (
        subst (HasInput before.files request.input) (sym ends.0) has,
        subst (λ (these : List ℕ). EndsWithInput request unit these before after (finished bytes reading files finish)) (sym ends.0) here,
      )
  ends_earlier (stopped bytes why files) ends =
      let cause : HasCause why before.folder_faults after.folder_faults = λ file is. Rose-earlier before.folder_faults middle.folder_faults after.folder_faults earlier (ends.3 file is) in
      let here = from_earlier (λ told written faults. EndsWithInput request unit input (record before { files = told; written = written; sink_faults = faults }) after (stopped bytes why files))
      (ends.0, ends.1, ends.2, cause, ends.4, ends.5) in (
        subst (HasInput before.files request.input) (sym ends.0) has,
        subst (λ (these : List ℕ). EndsWithInput request unit these before after (stopped bytes why files)) (sym ends.0) here,
      )
  ends_earlier (input_missing why) ends = absurd ends
  ends_earlier memory_wanted ends = (ends.0 ∙ same_files, ends.1 ∙ same_written)

-- there is no input
pub ends_without : (request : RunRequest) (unit : Source) (name : List ℕ) (before after : Outside) (why : NoInput) (result : Result ℕ Memory) → request.input ≡ Some name
    → IsNoInputFile before.files name before.folder_faults after.folder_faults why → KeepsFiles before after → OnOk result (Puts before after (line_of_no_input name why))
    → IfOk result (λ status. status ≡ status_of_no_input why) → OnErr result (after.written ≡ before.written) → EndsRunAs request unit before after result
ends_without request unit name before after why (Ok status) named none keeps puts is unwritten = (
  input_missing why,
  is,
  (
    subst (λ given. HasNoInput before.files given before.folder_faults after.folder_faults why) (sym named) none,
    keeps,
    subst (λ given. Puts before after (line_without_input given why)) (sym named) puts,
  ),
)
ends_without request unit name before after why (Err error) named none keeps puts is unwritten = (keeps, unwritten)

-- what a run ends as from a later moment on, at which the files and the output are as before, it ends as from the earlier one
lacks_earlier : (told : Option Files) (given : Option (List ℕ)) (before middle after : ℕ) (why : NoInput) → before ≤ middle → HasNoInput told given middle after why → HasNoInput told given before after why
lacks_earlier told None before middle after why earlier none = none
lacks_earlier told (Some name) before middle after Missing earlier none = none
lacks_earlier told (Some name) before middle after TooLong earlier none = none
lacks_earlier told (Some name) before middle after ReadFault earlier none = (none.0, Rose-earlier before middle after earlier none.1)

module _ (request : RunRequest) (unit : Source) (before middle after : Outside) (same_files : middle.files ≡ before.files) (same_written : middle.written ≡ before.written)
    (earlier : before.folder_faults ≤ middle.folder_faults) (same_faults : middle.sink_faults ≡ before.sink_faults) where
  pub run_earlier : (ending : RunEnding) → EndsRun request unit middle after ending → EndsRun request unit before after ending
  run_earlier (finished input reading files finish) ends =
      ends_earlier request unit input before middle after (subst (λ told. HasInput told request.input input) same_files ends.0) same_files same_written earlier same_faults
      (finished input reading files finish) ends.1
  run_earlier (stopped input why files) ends =
      ends_earlier request unit input before middle after (subst (λ told. HasInput told request.input input) same_files ends.0) same_files same_written earlier same_faults
      (stopped input why files) ends.1
  run_earlier (input_missing why) ends = (
    lacks_earlier before.files request.input before.folder_faults middle.folder_faults after.folder_faults why earlier
        (subst (λ told. HasNoInput told request.input middle.folder_faults after.folder_faults why) same_files ends.0),
    ends.1 ∙ same_files,
    subst (λ faults. PutsText before.written after.written faults after.sink_faults (line_without_input request.input why)) same_faults
        (subst (λ told. PutsText told after.written middle.sink_faults after.sink_faults (line_without_input request.input why)) same_written ends.2),
  )
  run_earlier memory_wanted ends = (ends.0 ∙ same_files, ends.1 ∙ same_written)
