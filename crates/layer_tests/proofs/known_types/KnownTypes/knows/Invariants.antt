-- The numbers that aren't looked at yet were given too.
use Rattle.std.proofs.Common.{All, length}
use Rattle.dm_type.specs.Tables.{IsId}
use Rattle.layer_tests.proofs.known_types.KnownTypes.knows.Given as goal

abbrev pub invariant-loop-last : goal.invariant-loop-last
invariant-loop-last l = All (IsId l.self) l.given

abbrev pub decreases-loop-last : goal.decreases-loop-last
decreases-loop-last l = length l.given
