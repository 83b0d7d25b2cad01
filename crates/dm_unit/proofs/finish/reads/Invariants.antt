use Rattle.std.proofs.Common.{◌≡◌, ◌++◌, length}
use Rattle.dm_unit.specs.Units.{reads_of}
use Rattle.dm_unit.proofs.finish.reads.Given as goal

abbrev pub invariant-loop-definition : goal.invariant-loop-definition
invariant-loop-definition l = l.reads ++ reads_of l.definitions l.before ≡ reads_of l.fn.definitions l.fn.before

abbrev pub decreases-loop-definition : goal.decreases-loop-definition
decreases-loop-definition l = length l.definitions
