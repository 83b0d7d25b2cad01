-- What a loader knows of the files that a unit's reading knows.
use Rattle.std.specs.Prelude.{◌≡◌, ◌⊎◌, ℕ, ◌<◌, ◌≤◌, ◌||◌, Bool, true, false, List, ◌++◌, map, length, Option, Some, None, Result, Ok, Err, is_some}
use Rattle.dm_token.specs.declared.stop.Stop.{Stop}
use Rattle.dm_token.specs.declared.stop.Stop.TheVariants.{Memory, Refused, Limit, ReadFault}
use Rattle.dm_io.specs.Files.{Files, file_at}
use Rattle.dm_search.specs.Loaded.{Loaded, name_of, number_of, held_at, is_held, is_absent}
use Rattle.dm_unit.specs.States.{Catalogue}

-- with fewer names than so many there is room for those of a unit: its main file, and one for each inclusion
abbrev pub most_names : ℕ
most_names = 4000000000

-- the files that a loader knows: those that it holds were found
abbrev pub shown : Loaded → Catalogue
shown loaded = record { names = loaded.names; found = map is_some loaded.held }

-- whether the file of a name is held, or known to be absent
abbrev pub is_known : Loaded → List ℕ → Bool
is_known loaded name = is_held loaded (number_of loaded name) || is_absent loaded name

-- the bytes held for a name, if any
abbrev pub held_for : Loaded → List ℕ → Option (List ℕ)
held_for loaded name = held_at loaded (number_of loaded name)

-- What is known of the file of a name stays: its bytes, or that there is none.
abbrev pub KeepsKnown : Loaded → Loaded → Type 0
KeepsKnown old new = (name : List ℕ) → is_known old name ≡ true → (is_known new name ≡ true) × (held_for new name ≡ held_for old name)

-- These files have, for each name of which a loader comes to know, what it knows then: the bytes that it holds, or none.
abbrev pub HasKnown : Files → Loaded → Loaded → Type 0
HasKnown files old new = (name : List ℕ) → is_known old name ≡ false → is_known new name ≡ true → file_at files name ≡ held_for new name

-- the file that a stop names
abbrev pub file_of : Stop → Option ℕ
file_of Memory = None
file_of (Refused refusal) = Some refusal.place.file
file_of (Limit limit) = Some limit.file
file_of (ReadFault file) = Some file

-- the file of a stop, where there is one
abbrev pub stopped_at : {A : Type 0} → Result A Stop → Option ℕ
stopped_at (Ok answer) = None
stopped_at (Err stop) = file_of stop

-- a number is that of the stop's file
abbrev pub IsOf : Option ℕ → ℕ → Type 0
IsOf None number = ⊥
IsOf (Some file) number = number ≡ file

-- What a loader knows stays known, with the same bytes, and each new name's file is held, apart from that of a stop.
pub record Grows (apart : Option ℕ) (old new : Loaded) : Type 0 where
  pub begins : (more : List (List ℕ)) × (new.names ≡ old.names ++ more)
  pub held_too : (file : ℕ) (bytes : List ℕ) → held_at old file ≡ Some bytes → held_at new file ≡ Some bytes
  pub absent_too : (name : List ℕ) → is_absent old name ≡ true → is_absent new name ≡ true
  pub new_held : (file : ℕ) → length old.names ≤ file → file < length new.names → (is_held new file ≡ true) ⊎ IsOf apart file

-- Nothing was known of a file.
abbrev pub WasUnknown : Loaded → Loaded → ℕ → Type 0
WasUnknown old new file = (is_held old file ≡ false) × (is_absent old (name_of new file) ≡ false)
