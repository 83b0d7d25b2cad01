-- The reading of a unit from files: what phase 4 and each layer behind it give, and the first stop.
--     IsReading setting unit old result new      what is given of a unit, between two moments of a loader
--     IsReadingByKnown unit old new reading      so it is over all files that have what the loader came to know
--     AreOneReading one other      two readings are one, each with numbers of types of its own. Want of memory has no cause
use Rattle.std.specs.Prelude.{◌≡◌, ◌⊎◌, List, Result, Ok, Err, IsPermutation}
use Rattle.dm_token.specs.declared.stop.Stop.{Stop}
use Rattle.dm_token.specs.declared.stop.Stop.TheVariants as stop
use Rattle.dm_token.specs.declared.unit.Unit.{Unit as Source}
use Rattle.dm_token.specs.declared.unit.UnitTokens.{UnitTokens}
use Rattle.dm_token.specs.declared.unit.Use.{Use}
use Rattle.dm_io.specs.Files.{Files}
use Rattle.dm_search.specs.Loaded.{Loaded}
use Rattle.dm_unit.specs.States.{Setting}
use Rattle.dm_unit.specs.Loaders.{HasKnown}
use Rattle.dm_unit.specs.Units.{IsReadAs, setting_of}
use Rattle.dm_reading.specs.declared.reading.Reading.{Reading}
use Rattle.dm_reading.specs.Layered.{HasLayers, IsLayered, layers_of}
use Rattle.dm_outcome.specs.Outcomes.{AreOneLayers}

abbrev pub IsReading : Setting → Source → Loaded → Result Reading Stop → Loaded → Type 0
IsReading setting unit old (Ok reading) new = (reading.unit ≡ unit) × IsReadAs setting unit old (Ok reading.pp) new × IsLayered reading
IsReading setting unit old (Err stop) new =
    IsReadAs setting unit old (Err stop) new ⊎ ((pp : UnitTokens) × IsReadAs setting unit old (Ok pp) new × HasLayers pp.tokens (Err stop))

-- the reading of a unit over any files that have what the loader came to know, whether or not the folder tells its files
abbrev pub IsReadingByKnown : Source → Loaded → Loaded → Reading → Type 0
IsReadingByKnown unit old new reading = (files : Files) → HasKnown files old new → IsReading (setting_of old new files unit) unit old (Ok reading) new

-- the same tokens with all that is known of them, up to the order of the names used in conditions
abbrev pub AreSameTokens : UnitTokens → UnitTokens → Type 0
AreSameTokens one other = (uses : List Use) × IsPermutation one.directive_uses uses × (other ≡ record one { directive_uses = uses })

abbrev pub AreOneReading : Result Reading Stop → Result Reading Stop → Type 0
AreOneReading (Err stop.Memory) other = Unit {0}
AreOneReading one (Err stop.Memory) = Unit {0}
AreOneReading (Ok one) (Ok other) = (other.unit ≡ one.unit) × AreSameTokens one.pp other.pp × AreOneLayers (Ok (layers_of one)) (Ok (layers_of other))
AreOneReading (Err one) (Err other) = other ≡ one
AreOneReading one other = ⊥
