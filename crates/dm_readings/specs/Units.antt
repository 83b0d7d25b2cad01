-- The reading of a project's units, one after the other (5.1.1.2).
--     ReadsNext files unit spent old result new      what the reading of one unit comes to, behind so many tokens of others
--     ReadsUnits files units spent old end      what the readings of units come to
--     ReadsProject files units old end      the same for all units, where the definitions of all are counted last
use Rattle.std.specs.Prelude.{◌≡◌, ◌⊎◌, ℕ, ◌+◌, ◌<◌, ◌≤◌, List, [], ◌∷◌, length, All, Result, Ok, Err}
use Rattle.std.specs.Result.{result_map_both}
use Rattle.dm_token.specs.LimitNumbers as limits
use Rattle.dm_token.specs.Limits.{most_definitions, source_length_limit}
use Rattle.dm_token.specs.declared.stop.Stop.{Stop}
use Rattle.dm_token.specs.declared.stop.Stop.TheVariants.{Memory}
use Rattle.dm_token.specs.declared.unit.Unit.{Unit as Source}
use Rattle.dm_io.specs.Files.{Files}
use Rattle.dm_search.specs.Loaded.{Loaded, number_of}
use Rattle.dm_unit.specs.States.{limit}
use Rattle.dm_unit.specs.Units.{setting_of}
use Rattle.dm_tree.specs.TypeNumbers.{IsTypedUnit}
use Rattle.dm_reading.specs.declared.reading.Reading.{Reading}
use Rattle.dm_readings.specs.Reading.{IsReading}
use Rattle.dm_readings.specs.Definitions.{definitions_in}
use Rattle.dm_readings.specs.Leaves.{Follows}

-- the most tokens of all units together
abbrev pub most_project_tokens : ℕ
most_project_tokens = 4000000

-- how many tokens readings have together
abbrev pub token_count : List Reading → ℕ
token_count [] = 0
token_count (reading ∷ readings) = length reading.pp.tokens + token_count readings

-- The number that no file has stands for the project's own word, which has no number.
abbrev pub no_file : ℕ
no_file = 4294967295

-- Each define of a unit is no longer than a source file.
abbrev pub HasShortDefines : Source → Type 0
HasShortDefines unit = All (λ (define : List ℕ). length define ≤ source_length_limit) unit.define

-- A unit is read by what the loader knows then, which stays known. Its tokens are counted behind so many of the units before it.
abbrev pub ReadsNext : Files → Source → ℕ → Loaded → Result Reading Stop → Loaded → Type 0
ReadsNext files unit spent old (Ok reading) new =
    IsReading (setting_of old new files unit) unit old (Ok reading) new × (spent + length reading.pp.tokens ≤ most_project_tokens) × Follows files old new
ReadsNext files unit spent old (Err stop) new =
    IsReading (setting_of old new files unit) unit old (Err stop) new
    ⊎ ((reading : Reading) × IsReading (setting_of old new files unit) unit old (Ok reading) new
    × (most_project_tokens < spent + length reading.pp.tokens) × (stop ≡ limit limits.project_tokens (number_of new unit.file)))

-- what the readings of units come to: the readings, or the first stop, how many were begun, and what the loader knows then
pub record Ending : Type 0 where
  pub result : Result (List Reading) Stop
  pub begun : ℕ
  pub loaded : Loaded

abbrev pub ending : Result (List Reading) Stop → ℕ → Loaded → Ending
ending result begun loaded = record { result = result; begun = begun; loaded = loaded }

-- one unit was begun, and reading stops there
abbrev pub stopped : Stop → Loaded → Ending
stopped stop loaded = ending (Err stop) 1 loaded

-- one unit was read before the others
abbrev pub behind : Reading → Ending → Ending
behind first others = ending (result_map_both (λ readings. first ∷ readings) (λ stop. stop) others.result) (others.begun + 1) others.loaded

-- The units are read in order, up to the first stop.
abbrev pub ReadsUnits : Files → List Source → ℕ → Loaded → Ending → Type 0
ReadsUnits files [] spent old end = end ≡ ending (Ok []) 0 old
ReadsUnits files (unit ∷ units) spent old end =
    ((stop : Stop) × (known : Loaded) × ReadsNext files unit spent old (Err stop) known × (end ≡ stopped stop known))
    ⊎ ((reading : Reading) × (known : Loaded) × (others : Ending) × ReadsNext files unit spent old (Ok reading) known
    × ReadsUnits files units (spent + length reading.pp.tokens) known others × (end ≡ behind reading others))

-- The readings stand, unless they have too many different definitions. Only want of memory has no cause.
abbrev pub IsCounted : Result (List Reading) Stop → Result (List Reading) Stop → Type 0
IsCounted (Err stop) result = result ≡ Err stop
IsCounted (Ok readings) (Err Memory) = Unit {0}
IsCounted (Ok readings) result =
    ((length (definitions_in readings) ≤ most_definitions) × (result ≡ Ok readings))
    ⊎ ((most_definitions < length (definitions_in readings)) × (result ≡ Err (limit limits.definitions no_file)))

abbrev pub ReadsProject : Files → List Source → Loaded → Ending → Type 0
ReadsProject files units old end =
    (given : Result (List Reading) Stop) × ReadsUnits files units 0 old (ending given end.begun end.loaded) × IsCounted given end.result

-- the typed unit of a reading is well typed
abbrev pub IsTyped : Reading → Type 0
IsTyped reading = IsTypedUnit reading.types reading.core

-- what holds of the readings of a project: their tokens and their definitions are not too many
pub record KeepsLimits (readings : List Reading) : Type 0 where
  pub tokens : token_count readings ≤ most_project_tokens
  pub definitions : length (definitions_in readings) ≤ most_definitions
