-- How the run of a unit ends.
use Rattle.std.specs.Prelude.{◌≡◌, ◌≢◌, ℕ, false, List, Option, Some, Result, Ok, Err}
use Rattle.dm_token.specs.declared.stop.Memory.{Memory}
use Rattle.dm_token.specs.declared.stop.Stop.{Stop}
use Rattle.dm_token.specs.declared.stop.Stop.TheVariants as stop
use Rattle.dm_token.specs.declared.unit.Unit.{Unit as Source}
use Rattle.dm_io.specs.Files.{Files}
use Rattle.dm_io.specs.Faults.{Rose}
use Rattle.dm_search.specs.Loaded.{Loaded}
use Rattle.dm_token.specs.declared.unit.UnitTokens.{UnitTokens}
use Rattle.dm_search.specs.Fresh.{fresh}
use Rattle.dm_unit.specs.Units.{IsReadAs, setting_of}
use Rattle.dm_lines.specs.Outside.{Outside, KeepsFiles, Puts}
use Rattle.dm_lines.specs.Statuses as statuses
use Rattle.dm_lines.specs.Stops.{line_of_stop, status_of_stop}
use Rattle.dm_reading.specs.declared.reading.Reading.{Reading}
use Rattle.dm_words.specs.Requests.{RunRequest}
use Rattle.dm_running.specs.declared.input.NoInput.{NoInput}
use Rattle.dm_running.specs.Inputs.{HasInput, HasNoInput, line_without_input, status_of_no_input}
use Rattle.dm_running.specs.Readings.{IsUnitReading, MayRun, exceeds}
use Rattle.dm_running.specs.Finishes.{Finish, status_of_finish, IsFinish}

-- the endings: the unit was read, its reading stopped, there is no input, or memory is wanted
pub data RunEnding : Type 0 where
  finished : List ℕ → Reading → Loaded → Finish → RunEnding
  stopped : List ℕ → Stop → Loaded → RunEnding
  input_missing : NoInput → RunEnding
  memory_wanted : RunEnding

-- the exit status of each
abbrev pub status_of_run : RunEnding → ℕ
status_of_run (finished input reading files finish) = status_of_finish finish
status_of_run (stopped input why files) = status_of_stop why
status_of_run (input_missing why) = status_of_no_input why
status_of_run memory_wanted = statuses.memory_wanted

-- a fault has its cause in the folder
abbrev pub HasCause : Stop → ℕ → ℕ → Type 0
HasCause why before after = (file : ℕ) → why ≡ stop.ReadFault file → Rose before after

-- what each ending means for a unit and its input
abbrev pub EndsWithInput : RunRequest → Source → List ℕ → Outside → Outside → RunEnding → Type 0
EndsWithInput request unit input before after (finished bytes reading files finish) =
    (bytes ≡ input) × IsUnitReading before.files unit (Ok reading) files × KeepsFiles before after
    × IsFinish request reading files.names input before.written after.written before.sink_faults after.sink_faults finish
EndsWithInput request unit input before after (stopped bytes why files) =
    (bytes ≡ input) × IsUnitReading before.files unit (Err why) files × (why ≢ stop.Memory) × HasCause why before.folder_faults after.folder_faults
    × KeepsFiles before after × Puts before after (line_of_stop files.names why)
EndsWithInput request unit input before after (input_missing why) = ⊥
EndsWithInput request unit input before after memory_wanted = KeepsFiles before after × (after.written ≡ before.written)

abbrev pub EndsWithInputAs : RunRequest → Source → List ℕ → Outside → Outside → Result ℕ Memory → Type 0
EndsWithInputAs request unit input before after (Ok status) = (ending : RunEnding) × (status ≡ status_of_run ending) × EndsWithInput request unit input before after ending
EndsWithInputAs request unit input before after (Err error) = EndsWithInput request unit input before after memory_wanted

-- what each ending means for a unit
abbrev pub EndsRun : RunRequest → Source → Outside → Outside → RunEnding → Type 0
EndsRun request unit before after (finished input reading files finish) =
    HasInput before.files request.input input × EndsWithInput request unit input before after (finished input reading files finish)
EndsRun request unit before after (stopped input why files) =
    HasInput before.files request.input input × EndsWithInput request unit input before after (stopped input why files)
EndsRun request unit before after (input_missing why) =
    HasNoInput before.files request.input before.folder_faults after.folder_faults why × KeepsFiles before after × Puts before after (line_without_input request.input why)
EndsRun request unit before after memory_wanted = KeepsFiles before after × (after.written ≡ before.written)

abbrev pub EndsRunAs : RunRequest → Source → Outside → Outside → Result ℕ Memory → Type 0
EndsRunAs request unit before after (Ok status) = (ending : RunEnding) × (status ≡ status_of_run ending) × EndsRun request unit before after ending
EndsRunAs request unit before after (Err error) = EndsRun request unit before after memory_wanted

-- The files are told, the input is there, and the unit is read, has a syntax and a typing with a `main`, and not too many definitions.
pub record HoldsRun (told : Option Files) (request : RunRequest) (unit : Source) : Type 0 where
  pub files : Files
  pub are_told : told ≡ Some files
  pub input : List ℕ
  pub has_input : HasInput told request.input input
  pub tokens : UnitTokens
  pub loaded : Loaded
  pub is_read : IsReadAs (setting_of fresh loaded files unit) unit fresh (Ok tokens) loaded
  pub few : exceeds tokens.read ≡ false
  pub runs : MayRun tokens.tokens
