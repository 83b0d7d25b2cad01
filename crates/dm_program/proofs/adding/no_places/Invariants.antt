-- So many numbers have none.
use Rattle.std.proofs.Common.{◌≡◌, ◌≤◌, ◌-◌, length, replicate, None}
use Rattle.dm_program.proofs.adding.no_places.Given as goal

abbrev pub invariant-loop-all : goal.invariant-loop-all
invariant-loop-all l = (l.all.items ≡ replicate (length l.all.items) None) × (length l.all.items ≤ l.count)

abbrev pub decreases-loop-all : goal.decreases-loop-all
decreases-loop-all l = l.count - length l.all.items
