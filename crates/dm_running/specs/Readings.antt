-- The reading of a unit, and what may be run of it.
use Rattle.std.specs.Prelude.{◌≢◌, Bool, List, nat_lt, Option, Some, None, Result, Ok}
use Rattle.dm_token.specs.declared.stop.Stop.{Stop}
use Rattle.dm_token.specs.declared.token.Token.{Token}
use Rattle.dm_token.specs.declared.unit.Unit.{Unit as Source}
use Rattle.dm_token.specs.declared.unit.Read.{Read}
use Rattle.dm_io.specs.Files.{Files}
use Rattle.dm_search.specs.Loaded.{Loaded}
use Rattle.dm_search.specs.Fresh.{fresh}
use Rattle.dm_unit.specs.Units.{setting_of}
use Rattle.dm_type.specs.Tables.{Table}
use Rattle.dm_tree.specs.declared.unit.CoreUnit.{CoreUnit}
use Rattle.dm_reading.specs.declared.reading.Layers.{Layers}
use Rattle.dm_reading.specs.declared.reading.Reading.{Reading}
use Rattle.dm_reading.specs.Layered.{HasLayers}
use Rattle.dm_readings.specs.Reading.{IsReading}
use Rattle.dm_meaning.specs.Programs.{Program}
use Rattle.dm_meaning.specs.Units.{main_of}
use Rattle.dm_program.specs.Sources.{meant}
use Rattle.dm_definitions.specs.Counts.{definition_count, limit}

-- Where the files are told, a unit is read so, by a loader that knew no file before, and these are the files by number
-- afterwards.
abbrev pub IsUnitReading : Option Files → Source → Result Reading Stop → Loaded → Type 0
IsUnitReading None unit result files = Unit {0}
IsUnitReading (Some told) unit result files = IsReading (setting_of fresh files told unit) unit fresh result files

-- whether a unit reads too many definitions
abbrev pub exceeds : List Read → Bool
exceeds read = nat_lt limit (definition_count read)

-- the program of a typed unit, and whether it defines `main`
abbrev pub program_of : Table → CoreUnit → Program
program_of types core = meant (record { table = types; unit = core })

abbrev pub HasMain : Table → CoreUnit → Type 0
HasMain types core = main_of (program_of types core) ≢ None

-- The tokens of a unit come through all layers, and what they come to has a `main`.
pub record MayRun (tokens : List Token) : Type 0 where
  pub layers : Layers
  pub has : HasLayers tokens (Ok layers)
  pub main : HasMain layers.types layers.core
