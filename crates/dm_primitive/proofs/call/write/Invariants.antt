-- So far the bytes so far are written.
use Rattle.std.proofs.Common.{◌≡◌, ◌++◌, take}
use Rattle.dm_primitive.proofs.call.write.Given as goal

abbrev pub invariant-loop-byte : goal.invariant-loop-byte
invariant-loop-byte l = l.streams ≡ record l.initial.streams { output = l.initial.streams.output ++ take l.byte-index l.bytes }
