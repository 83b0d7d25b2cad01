-- What is looked up of the units stays theirs.
use Rattle.dm_judge.specs.Units.{AreWhole}
use Rattle.judging_tests.proofs.proposals.put_proposals.Given as goal

abbrev pub invariant-loop-definition : goal.invariant-loop-definition
invariant-loop-definition l = AreWhole l.units
