-- The items stay, there are no more ready nodes in front of the place than the number, and the place moves to the end.
use Rattle.std.proofs.Common.{◌≡◌, ◌≤◌, ◌++◌, length}
use Rattle.dm_row.specs.Counts.{ready_in}
use Rattle.dm_row.proofs.row.Row.go_on_to.Given as goal

abbrev pub invariant-loop-self : goal.invariant-loop-self
invariant-loop-self g l = (l.fn.self.0 ++ l.fn.self.1 ≡ l.self.0 ++ l.self.1) × (ready_in 0 l.self.0 ≤ l.number)

abbrev pub decreases-loop-self : goal.decreases-loop-self
decreases-loop-self g l = length l.self.1
