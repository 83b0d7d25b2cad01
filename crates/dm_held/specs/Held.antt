-- What a loader holds.
--     IsNumbered loaded      what each loader says of itself
--     held_files loaded      the files that it holds, by their names
--     LiesHeld loaded definition      a definition that was read from a file lies in the bytes that are held for it
use Rattle.std.specs.Prelude.{◌≡◌, ◌<◌, length, true, List, ℕ, [], ◌∷◌, Option, Some, None, IsSome}
use Rattle.std.specs.FinMap as finite
use Rattle.dm_token.specs.declared.expansion.Definition.{Definition}
use Rattle.dm_io.specs.Files.{Files}
use Rattle.dm_search.specs.Loaded.{Loaded, held_at, name_of, number_of}
use Rattle.dm_runs.specs.Runs.{is_file}
use Rattle.dm_edit.specs.Cuts.{LiesIn, body_end}

-- each name has a slot for its bytes, and a number of its own
abbrev pub IsNumbered : Loaded → Type 0
IsNumbered loaded = (length loaded.held ≡ length loaded.names) × ((file : ℕ) → file < length loaded.names → number_of loaded (name_of loaded file) ≡ file)

-- a name with what is held for it, in front of other files: the first of a name counts
abbrev pub with_held : List ℕ → Option (List ℕ) → Files → Files
with_held name None files = finite.remove files name
with_held name (Some bytes) files = finite.insert files name bytes

unfoldable pub files_of : List (List ℕ) → List (Option (List ℕ)) → Files
files_of [] held = finite.empty
files_of (name ∷ names) [] = finite.empty
files_of (name ∷ names) (bytes ∷ held) = with_held name bytes (files_of names held)

abbrev pub held_files : Loaded → Files
held_files loaded = files_of loaded.names loaded.held

-- If the definition has a body, bytes are held for the file of its place, and it lies in these.
abbrev pub LiesHeld : Loaded → Definition → Type 0
LiesHeld loaded definition =
    is_file definition.origin ≡ true → IsSome (body_end definition)
    → (bytes : List ℕ) × (held_at loaded definition.place.file ≡ Some bytes) × LiesIn bytes definition
