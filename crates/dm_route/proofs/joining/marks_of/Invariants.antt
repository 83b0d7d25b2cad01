use Rattle.std.proofs.Common.{◌≡◌, ◌++◌, length}
use Rattle.dm_route.proofs.joining.marks_of.Given as goal

abbrev pub invariant-legs : goal.invariant-legs
invariant-legs l = l.marks.items ++ (l.left ++ l.own) ≡ l.route

abbrev pub decreases-legs : goal.decreases-legs
decreases-legs l = length l.left
