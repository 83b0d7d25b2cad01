-- So far there are the characters of the bytes so far.
use Rattle.std.proofs.Common.{◌≡◌, map, take}
use Rattle.dm_meaning.specs.Memory.{character}
use Rattle.dm_value.specs.Views.{view_of_value}
use Rattle.dm_memory.proofs.literal.characters.Given as goal

abbrev pub invariant-loop-byte : goal.invariant-loop-byte
invariant-loop-byte l = map view_of_value l.all.items ≡ map character (take l.byte-index l.bytes)
