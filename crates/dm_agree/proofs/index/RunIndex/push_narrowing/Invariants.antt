-- What is added so far and what is left are together what is to be added.
use Rattle.std.proofs.Common.{◌≡◌, ◌++◌, flat_map}
use Rattle.dm_agree.specs.Runs.{runs_in}
use Rattle.dm_agree.specs.Standing.{narrowing, runs_with}
use Rattle.dm_agree.proofs.index.RunIndex.push_narrowing.Given as goal

abbrev pub invariant-loop-left : goal.invariant-loop-left
invariant-loop-left l =
    runs_in l.found.items ++ flat_map (runs_with l.self) (narrowing l.inner l.left) ≡ runs_in l.initial.found.items ++ flat_map (runs_with l.self) (narrowing l.inner l.fn.pairs)

abbrev pub decreases-loop-left : goal.decreases-loop-left
decreases-loop-left l = l.left
