-- So far there are copies of the first.
use Rattle.std.proofs.Common.{◌≡◌, take}
use Rattle.dm_reading.proofs.copies.copy_of_tokens.Given as goal

abbrev pub invariant-loop-token : goal.invariant-loop-token
invariant-loop-token l = l.copies ≡ take l.token-index l.tokens
