-- The numbers behind those that are left are good.
use Rattle.std.proofs.Common.{◌≤◌, ◌<◌, ◌+◌, nat_eq, length}
use Rattle.std.specs.HashSet.{contains}
use Rattle.dm_align.proofs.ParameterLemmas.{AreSeen}
use Rattle.dm_align.proofs.insertion.are_parameters.Given as goal

abbrev pub invariant-loop-number : goal.invariant-loop-number
invariant-loop-number l = AreSeen (λ number. (l.it.first ≤ number) × (number < l.it.first + l.it.count)) l.fn.numbers l.left (contains nat_eq l.seen)

abbrev pub decreases-loop-number : goal.decreases-loop-number
decreases-loop-number l = length l.left
