-- The runs so far.
use Rattle.std.proofs.Common.{◌≡◌, ◌++◌, take}
use Rattle.dm_agree.specs.Runs.{runs_in}
use Rattle.dm_agree.proofs.index.RunIndex.push_widened.Given as goal

abbrev pub invariant-loop-run : goal.invariant-loop-run
invariant-loop-run l = runs_in l.found.items ≡ runs_in l.initial.found.items ++ runs_in (take l.run-index l.run-items)
