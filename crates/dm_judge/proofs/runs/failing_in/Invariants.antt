-- The numbers of those expansions whose runs up to here break the rule.
use Rattle.std.proofs.Common.{not, take}
use Rattle.std.specs.Prelude.{filter}
use Rattle.dm_rules.specs.Instances.{AreOf}
use Rattle.dm_judge.specs.Rules as rules
use Rattle.dm_judge.proofs.runs.failing_in.Given as goal

abbrev pub invariant-loop-run : goal.invariant-loop-run
invariant-loop-run l = AreOf (filter (λ run. not (rules.keeps l.fn.rule l.fn.definition l.fn.unit.index.now.reading.now run)) (take l.run-index l.runs)) l.failing
