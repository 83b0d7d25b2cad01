use Rattle.std.proofs.Common.{◌≡◌, ◌++◌, drop}
use Rattle.dm_expand.specs.Strings.{escaped}
use Rattle.dm_expand.proofs.string.escape.Given as goal

abbrev pub invariant-loop-byte : goal.invariant-loop-byte
invariant-loop-byte l = l.to.items ++ escaped (drop l.byte-index l.bytes) ≡ l.fn.to.items ++ escaped l.bytes
