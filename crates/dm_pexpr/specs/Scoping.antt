-- Declarations that came on the way, as they are kept: each with what was known of its name before, and a map of the latest.
--     latest_of declared name      what the latest declaration of a name says, if there is one
--     known_with names declared      the names with what is declared besides
use Rattle.std.specs.Prelude.{◌≡◌, ℕ, Bool, List, [], ◌∷◌, Option, Some, None, map, bytes_eq, if◌then◌else◌}
use Rattle.std.specs.FinMap as finite
use Rattle.dm_syn.specs.declared.declared.Declared.{Declared}
use Rattle.dm_pexpr.specs.declared.scope.Entry.{Entry}
use Rattle.dm_pexpr.specs.NameMaps.{NameMap, entry_of}

-- what the latest declaration of a name says, the latest first
unfoldable pub latest_of : List Declared → List ℕ → Option Bool
latest_of [] name = None
latest_of (latest ∷ others) name = if bytes_eq latest.name name then Some latest.is_type else latest_of others name

abbrev pub all_declared : List Entry → List Declared
all_declared = map (λ entry. entry.declared)

-- the map of the latest declarations
unfoldable pub known_by : List Declared → NameMap
known_by [] = finite.empty
known_by (latest ∷ others) = finite.insert (known_by others) latest.name latest.is_type

-- names with what is declared besides, the latest first
unfoldable pub known_with : NameMap → List Declared → NameMap
known_with names [] = names
known_with names (latest ∷ others) = finite.insert (known_with names others) latest.name latest.is_type

-- what was known of each name before
unfoldable pub befores : List Declared → List (Option Bool)
befores [] = []
befores (latest ∷ others) = entry_of (known_by others) latest.name ∷ befores others

-- each declaration has with it what was known of its name before
abbrev pub IsKept : List Entry → Type 0
IsKept entries = map (λ entry. entry.before) entries ≡ befores (all_declared entries)
