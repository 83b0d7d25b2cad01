-- The number was pushed so many times.
use Rattle.std.proofs.Common.{◌≡◌, ◌++◌, ◌≤◌, ◌-◌, replicate}
use Rattle.dm_around.proofs.parents.push_times.Given as goal

abbrev pub invariant-loop-done : goal.invariant-loop-done
invariant-loop-done l = (l.done ≤ l.count) × (l.numbers.items ≡ l.fn.numbers.items ++ replicate l.done l.number)

abbrev pub decreases-loop-done : goal.decreases-loop-done
decreases-loop-done l = l.count - l.done
