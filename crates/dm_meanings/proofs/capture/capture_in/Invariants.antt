-- The numbers of those expansions in whose runs up to here a name means something else.
use Rattle.std.proofs.Common.{not, take}
use Rattle.std.specs.Prelude.{filter}
use Rattle.dm_meanings.specs.Captures.{keeps_meanings}
use Rattle.dm_rules.specs.Instances.{AreOf}
use Rattle.dm_meanings.proofs.capture.capture_in.Given as goal

abbrev pub invariant-loop-run : goal.invariant-loop-run
invariant-loop-run l = AreOf (filter (λ run. not (keeps_meanings l.fn.definition l.fn.unit.index.now.reading.now run)) (take l.run-index l.runs)) l.instances
