use Rattle.std.proofs.Common.{◌≤◌, length, reverse}
use Rattle.dm_route.proofs.WalkLemmas.{IsWalk}
use Rattle.dm_route.proofs.walks.take_behind.Given as goal

abbrev pub invariant-walk : goal.invariant-walk
invariant-walk l = IsWalk l.fn.trail l.left (reverse l.marks.items) × (l.kept ≤ length l.left)

abbrev pub decreases-walk : goal.decreases-walk
decreases-walk l = length l.left
