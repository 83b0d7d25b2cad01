-- The built-in headers in a loader.
use Rattle.std.specs.Prelude.{◌≡◌, ℕ, ◌<◌, true, List, [], ◌++◌, map, Some}
use Rattle.dm_token.specs.Limits.{header_count}
use Rattle.dm_search.specs.Headers.{header_names, header_texts}
use Rattle.dm_search.specs.Loaded.{Loaded, is_held}

-- a loader that holds the built-in headers and knows of no other file
abbrev pub fresh : Loaded
fresh = record { names = header_names; held = map Some header_texts; absent = [] }

-- The built-in headers have the first numbers, and are held.
abbrev pub StartsWithHeaders : Loaded → Type 0
StartsWithHeaders loaded =
    ((others : List (List ℕ)) × (loaded.names ≡ header_names ++ others)) × ((file : ℕ) → file < header_count → is_held loaded file ≡ true)
