-- What a sink in memory shows.
use Rattle.std.specs.Prelude.{ℕ, List}
use Rattle.dm_io.specs.declared.memory_sink.MemorySink.{MemorySink}
use Rattle.dm_io.specs.declared.calls.Calls.{Calls}

-- what was written
abbrev pub bytes_of : MemorySink → List ℕ
bytes_of sink = sink.bytes.items

-- the room for more
abbrev pub room_of : MemorySink → ℕ
room_of sink = sink.room

-- its calls so far, and which are to fail
abbrev pub calls_of : MemorySink → Calls
calls_of sink = sink.calls
