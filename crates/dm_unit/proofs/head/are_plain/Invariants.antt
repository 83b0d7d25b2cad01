use Rattle.std.proofs.Common.{◌≡◌, length}
use Rattle.dm_unit.specs.Definitions.{are_plain}
use Rattle.dm_unit.proofs.head.are_plain.Given as goal

abbrev pub invariant-loop-token : goal.invariant-loop-token
invariant-loop-token l = are_plain l.fn.bytes l.from l.rest ≡ are_plain l.fn.bytes l.fn.from l.fn.tokens

abbrev pub decreases-loop-token : goal.decreases-loop-token
decreases-loop-token l = length l.rest
