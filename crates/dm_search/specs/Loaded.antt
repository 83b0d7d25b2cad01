-- What a loader knows: the names of files by number, the bytes held for some of them, and names that have no file.
use Rattle.std.specs.Prelude.{ℕ, Bool, List, [], ◌∷◌, ◌++◌, drop, count_by, Option, Some, None, is_some, bytes_eq, slice_index_or, slice_set, if◌then◌else◌}
use Rattle.std.specs.List.{list_any, position_or_len}
use Rattle.dm_token.specs.Limits.{header_count}

pub record Loaded : Type 0 where
  -- the names by number
  pub names : List (List ℕ)
  -- the bytes held for each of them, if any
  pub held : List (Option (List ℕ))
  -- the names that are known to have no file, whether they have a number or not
  pub absent : List (List ℕ)

-- the name of a number
abbrev pub name_of : Loaded → ℕ → List ℕ
name_of loaded file = slice_index_or loaded.names file []

-- the number of a name, or the next one where it has none
abbrev pub number_of : Loaded → List ℕ → ℕ
number_of loaded name = position_or_len (bytes_eq name) loaded.names

-- the bytes held for a number, if any
abbrev pub held_at : Loaded → ℕ → Option (List ℕ)
held_at loaded file = slice_index_or loaded.held file None

-- whether bytes are held for a number
abbrev pub is_held : Loaded → ℕ → Bool
is_held loaded file = is_some (held_at loaded file)

-- whether a name is known to have no file
abbrev pub is_absent : Loaded → List ℕ → Bool
is_absent loaded name = list_any (bytes_eq name) loaded.absent

-- how many files of the folder are held; the numbers of the built-in headers come first
abbrev pub found_files : Loaded → ℕ
found_files loaded = count_by is_some (drop header_count loaded.held)

-- a name has a number: its own, or the next one
abbrev pub with_name : Loaded → List ℕ → Loaded
with_name loaded name =
    if list_any (bytes_eq name) loaded.names then loaded
    else record { names = loaded.names ++ name ∷ []; held = loaded.held ++ None ∷ []; absent = loaded.absent }

-- bytes are held for a number
abbrev pub with_bytes : Loaded → ℕ → List ℕ → Loaded
with_bytes loaded file bytes = record { names = loaded.names; held = slice_set loaded.held file (Some bytes); absent = loaded.absent }

-- a name is known to have no file
abbrev pub without_file : Loaded → List ℕ → Loaded
without_file loaded name = record { names = loaded.names; held = loaded.held; absent = loaded.absent ++ name ∷ [] }
