-- Those of the runs up to here.
use Rattle.std.proofs.Common.{take}
use Rattle.dm_rules.specs.Instances.{AreOf}
use Rattle.dm_rules.proofs.instances.Instances.of.Given as goal

abbrev pub invariant-loop-run : goal.invariant-loop-run
invariant-loop-run l = AreOf (take l.run-index l.runs) l.instances
