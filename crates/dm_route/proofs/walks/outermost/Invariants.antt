use Rattle.std.proofs.Common.{◌≤◌, List, length}
use Rattle.dm_token.specs.declared.expansion.Mark.{Mark}
use Rattle.dm_route.proofs.WalkLemmas.{IsWalk}
use Rattle.dm_route.proofs.walks.outermost.Given as goal

abbrev pub invariant-walk : goal.invariant-walk
invariant-walk l = (passed : List Mark) × IsWalk l.fn.trail l.left passed × (l.count ≤ length l.left)

abbrev pub decreases-walk : goal.decreases-walk
decreases-walk l = length l.left
