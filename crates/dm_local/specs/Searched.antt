-- The files for which a reading looks.
--     LooksAlike before after old new apart      other files have for them, and for that of a stop, what these have
use Rattle.std.specs.Prelude.{◌≡◌, ℕ, true, List, Option, Some}
use Rattle.dm_io.specs.Files.{Files}
use Rattle.dm_search.specs.CallFiles.{file_for}
use Rattle.dm_search.specs.Loaded.{Loaded, name_of}
use Rattle.dm_unit.specs.Loaders.{is_known}

-- Behind a reading the loader knows the names for which the reading looked, but for that of the file at which it stopped, if it did.
pub record LooksAlike (before after : Files) (old new : Loaded) (apart : Option ℕ) : Type 0 where
  pub known : (name : List ℕ) → is_known new name ≡ true → file_for old after name ≡ file_for old before name
  pub stop : (file : ℕ) → apart ≡ Some file → file_for old after (name_of new file) ≡ file_for old before (name_of new file)
