-- What a folder in memory shows.
use Rattle.std.specs.Prelude.{ℕ, List}
use Rattle.dm_io.specs.declared.memory_folder.MemoryFolder.{MemoryFolder}
use Rattle.dm_io.specs.declared.calls.Calls.{Calls}
use Rattle.dm_io.specs.Files.{Files}
use Rattle.dm_io.specs.Stored.{contents, room_at}

-- its files
abbrev pub files_of : MemoryFolder → Files
files_of folder = contents folder.files.items

-- the room at a name
abbrev pub room_of : MemoryFolder → List ℕ → ℕ
room_of folder name = room_at folder.files.items name

-- its calls so far, and which are to fail
abbrev pub calls_of : MemoryFolder → Calls
calls_of folder = folder.calls
