-- The files of a folder in memory.
use Rattle.std.specs.Prelude.{◌≡◌, ◌≢◌, ℕ, Bool, List, map, nat_eq}
use Rattle.std.specs.Cmp.Lexicographic.{pointwise}
use Rattle.std.specs.List.{find}
use Rattle.std.specs.Option.{option_map_or}
use Rattle.std.specs.FinMap as finite
use Rattle.dm_io.specs.declared.stored.Stored.{Stored}
use Rattle.dm_io.specs.Files.{Files}

-- a file has this name and these bytes, and so much room
abbrev pub Holds : Stored → List ℕ → List ℕ → ℕ → Type 0
Holds stored name bytes room = (stored.name ≡ name) × (stored.bytes.items ≡ bytes) × (stored.room ≡ room)

-- a file's name and bytes
abbrev pub entry_of : Stored → List ℕ × List ℕ
entry_of stored = (stored.name, stored.bytes.items)

-- the bytes of the files by their names
abbrev pub contents : List Stored → Files
contents files = finite.from_entries (map entry_of files)

-- whether a file has this name
abbrev pub is_named : List ℕ → Stored → Bool
is_named name stored = pointwise nat_eq stored.name name

-- the room at a name: 0 where there is no such file
abbrev pub room_at : List Stored → List ℕ → ℕ
room_at files name = option_map_or (λ stored. stored.room) (find (is_named name) files) 0

-- the same rooms at every name
abbrev pub HaveSameRooms : List Stored → List Stored → Type 0
HaveSameRooms before after = (other : List ℕ) → room_at after other ≡ room_at before other

-- the same rooms at every other name
abbrev pub HaveSameOtherRooms : List Stored → List Stored → List ℕ → Type 0
HaveSameOtherRooms before after name = (other : List ℕ) → other ≢ name → room_at after other ≡ room_at before other
