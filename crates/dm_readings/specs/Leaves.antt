-- What the reading of units leaves of the folder and the loader.
use Rattle.std.specs.Prelude.{◌≡◌, ◌≢◌, ◌<◌, ◌≤◌, ℕ, true, false, List, ◌++◌, length, Option, Some, None, Result, Ok, Err}
use Rattle.dm_token.specs.Limits.{header_count}
use Rattle.dm_token.specs.declared.stop.Memory.{Memory as Wanted}
use Rattle.dm_token.specs.declared.stop.Stop.{Stop}
use Rattle.dm_token.specs.declared.stop.Stop.TheVariants.{Memory, ReadFault}
use Rattle.dm_io.specs.Faults.{Rose}
use Rattle.dm_io.specs.Files.{Files, HasFile}
use Rattle.dm_search.specs.Fresh.{StartsWithHeaders}
use Rattle.dm_search.specs.Loaded.{Loaded, name_of, number_of, held_at, is_held, is_absent}
use Rattle.dm_search.specs.CallFiles.{file_for}
use Rattle.dm_unit.specs.Loaders.{Grows, WasUnknown, most_names}
use Rattle.dm_unit.specs.Views.{StaysServed, named_by}

-- The files that a loader holds are files of the folder, apart from the built-in headers, whose numbers come first.
abbrev pub AreThere : Option Files → Loaded → Type 0
AreThere told loaded = (file : ℕ) → header_count ≤ file → is_held loaded file ≡ true → HasFile told (name_of loaded file)

-- So is each loader: the built-in headers have the first numbers, and each number is that of its name.
pub record IsNumbered (loaded : Loaded) : Type 0 where
  pub headers : StartsWithHeaders loaded
  pub slots : length loaded.held ≡ length loaded.names
  pub differ : (file : ℕ) → file < length loaded.names → number_of loaded (name_of loaded file) ≡ file

-- The folder's files and rooms stay, and its faults don't fall. A fault is one of a file of which nothing was known, and then they
-- rose. What the loader knows stays known, and there is room for the names of a unit more.
pub record Leaves (told told_now : Option Files) (room room_now : List ℕ → ℕ) (faults faults_now : ℕ) (old new : Loaded) (stop : Option Stop) : Type 0 where
  pub files_stay : told_now ≡ told
  pub rooms_stay : (other : List ℕ) → room_now other ≡ room other
  pub later : faults ≤ faults_now
  pub failed : (file : ℕ) → stop ≡ Some (ReadFault file) → Rose faults faults_now
  pub unknown : (file : ℕ) → stop ≡ Some (ReadFault file) → WasUnknown old new file
  pub grows : stop ≢ Some Memory → Grows (named_by stop) old new
  pub roomy : stop ≢ Some Memory → length new.names < most_names
  pub served : StaysServed told old new
  pub there : AreThere told old → AreThere told new

-- What the loader knows stays known, with the same bytes, and each name keeps its number.
pub record StaysKnown (old new : Loaded) : Type 0 where
  pub begins : (more : List (List ℕ)) × (new.names ≡ old.names ++ more)
  pub held_too : (file : ℕ) (bytes : List ℕ) → held_at old file ≡ Some bytes → held_at new file ≡ Some bytes
  pub absent_too : (name : List ℕ) → is_absent old name ≡ true → is_absent new name ≡ true

-- So it is between two moments of a loader over these files: each name has the file that it had.
pub record Follows (files : Files) (old new : Loaded) : Type 0 where
  pub knows : StaysKnown old new
  pub served : (name : List ℕ) → file_for new files name ≡ file_for old files name

-- The same where several units may stop: a fault names a file that wasn't held.
pub record LeavesKnown (told told_now : Option Files) (room room_now : List ℕ → ℕ) (faults faults_now : ℕ) (old new : Loaded) (stop : Option Stop) : Type 0 where
  pub files_stay : told_now ≡ told
  pub rooms_stay : (other : List ℕ) → room_now other ≡ room other
  pub later : faults ≤ faults_now
  pub failed : (file : ℕ) → stop ≡ Some (ReadFault file) → Rose faults faults_now
  pub unheld : (file : ℕ) → stop ≡ Some (ReadFault file) → is_held old file ≡ false
  pub knows : stop ≢ Some Memory → StaysKnown old new
  pub roomy : stop ≢ Some Memory → length new.names < most_names
  pub served : StaysServed told old new
  pub there : AreThere told old → AreThere told new

-- the stop of a call that only wants memory
abbrev pub memory_of : Result (Unit {0}) Wanted → Option Stop
memory_of (Ok done) = None
memory_of (Err error) = Some Memory
