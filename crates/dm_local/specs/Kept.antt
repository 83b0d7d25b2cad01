-- Readings by a loader that knows their files, and what keeps them.
--     IsOfLoader loaded      what holds of each loader
--     IsReadBy known files unit reading      the reading of a unit by a loader that knows all names that it looks for, and learns none from it
--     Keeps read before after old new known      a loader knows what another knew behind a reading that reads these files, and has the same bytes for them
use Rattle.std.specs.Prelude.{◌≡◌, ℕ, true, List, ◌++◌, length, Ok, is_some}
use Rattle.dm_token.specs.declared.unit.Unit.{Unit as Source}
use Rattle.dm_io.specs.Files.{Files}
use Rattle.dm_search.specs.Fresh.{StartsWithHeaders}
use Rattle.dm_search.specs.Loaded.{Loaded, name_of, is_held}
use Rattle.dm_search.specs.CallFiles.{file_for}
use Rattle.dm_unit.specs.Loaders.{is_known}
use Rattle.dm_unit.specs.Readings.{is_among}
use Rattle.dm_unit.specs.Units.{setting_of}
use Rattle.dm_reading.specs.declared.reading.Reading.{Reading}
use Rattle.dm_readings.specs.Reading.{IsReading}

-- What holds of each loader: it begins with the built-in headers, and has a slot for the bytes of each name.
abbrev pub IsOfLoader : Loaded → Type 0
IsOfLoader loaded = StartsWithHeaders loaded × (length loaded.held ≡ length loaded.names)

-- The reading of a unit by a loader that knows each name for which the unit looks: behind it the loader knows what it knew before.
abbrev pub IsReadBy : Loaded → Files → Source → Reading → Type 0
IsReadBy known files unit reading = IsReading (setting_of known known files unit) unit known (Ok reading) known

-- Between two moments of a loader, `old` and `new`, a unit was read that reads these files. A later one, `known`, which may hold other
-- bytes, keeps the numbers, what is held and what is known; each name that is known has a file as before, or none; and the files that
-- were read have the bytes that they had.
pub record Keeps (read : List ℕ) (before after : Files) (old new known : Loaded) : Type 0 where
  pub numbers : (more : List (List ℕ)) × (known.names ≡ new.names ++ more)
  pub held : (file : ℕ) → is_held new file ≡ true → is_held known file ≡ true
  pub knows : (name : List ℕ) → is_known new name ≡ true → is_known known name ≡ true
  pub there : (name : List ℕ) → is_known new name ≡ true → is_some (file_for known after name) ≡ is_some (file_for old before name)
  pub bytes : (file : ℕ) → is_among file read ≡ true → file_for known after (name_of known file) ≡ file_for old before (name_of known file)
