-- The files of a call of the tool: those that a loader holds or knows to be absent, and for all other names the folder's.
use Rattle.std.specs.Prelude.{◌≡◌, ℕ, Bool, true, false, List, Option, Some, None, Ok, is_some, MatchOption, find}
use Rattle.dm_io.specs.Files.{Files, file_at}
use Rattle.dm_search.specs.Loaded.{Loaded, number_of, held_at, is_absent}
use Rattle.dm_search.specs.Searching.{Finds}

-- the bytes that are held, or none where a file is known to be absent, or else the folder's
abbrev pub known_or : Option (List ℕ) → Bool → Option (List ℕ) → Option (List ℕ)
known_or (Some bytes) absent file = Some bytes
known_or None true file = None
known_or None false file = file

-- the bytes of the file of a name in the call, if there is one
abbrev pub file_for : Loaded → Files → List ℕ → Option (List ℕ)
file_for loaded files name = known_or (held_at loaded (number_of loaded name)) (is_absent loaded name) (file_at files name)

-- the first of some names that has a file
abbrev pub first_with_file : (List ℕ → Option (List ℕ)) → List (List ℕ) → Option (List ℕ)
first_with_file files names = find (λ name. is_some (files name)) names

-- A search that doesn't stop finds the number of the first name that has a file, or else the built-in header, if any.
abbrev pub FindsFirst : Files → Option ℕ → List (List ℕ) → Loaded → Option ℕ → Type 0
FindsFirst files header names old found =
    MatchOption (first_with_file (file_for old files) names) (found ≡ header) (λ name. found ≡ Some (number_of old name))
