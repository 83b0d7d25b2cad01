-- What was found so far and what is left make what the unit defines.
use Rattle.std.proofs.Common.{length}
use Rattle.dm_program.specs.Gathering.{AreGathered}
use Rattle.dm_program.proofs.statics.statics.Given as goal

abbrev pub invariant-loop-external : goal.invariant-loop-external
invariant-loop-external l = AreGathered l.unit l.left l.gathering

abbrev pub decreases-loop-external : goal.decreases-loop-external
decreases-loop-external l = length l.left
